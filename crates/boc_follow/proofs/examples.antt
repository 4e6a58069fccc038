pub mod StrayTransfer
