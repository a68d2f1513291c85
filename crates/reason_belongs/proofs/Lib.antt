pub mod FellingLength
