pub mod BesideTransfer
