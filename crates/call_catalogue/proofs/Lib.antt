pub mod FormGiven
