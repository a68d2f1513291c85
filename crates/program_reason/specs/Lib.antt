pub mod AskedNumber
