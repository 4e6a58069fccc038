pub mod ChainText
pub mod FoldedText
pub mod LeastText
pub mod Lists
pub mod ShortText
