pub mod ChainTable
