pub mod MendedLists
