pub mod AllBut
