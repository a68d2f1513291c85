pub mod LineLent
