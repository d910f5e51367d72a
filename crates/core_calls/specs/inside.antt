-- What only proofs use.
pub mod Signatures
