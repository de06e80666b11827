pub mod SourceBytes
