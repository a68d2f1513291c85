pub mod StatementsWritten
