pub mod FormRoom
