pub mod ListsSolved
