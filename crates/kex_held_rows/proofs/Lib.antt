pub mod RowBooks
