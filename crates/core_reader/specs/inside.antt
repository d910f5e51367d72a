pub mod ReaderView
