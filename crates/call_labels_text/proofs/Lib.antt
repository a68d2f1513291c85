pub mod TextWritten
