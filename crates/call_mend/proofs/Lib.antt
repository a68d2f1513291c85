pub mod MendGiven
