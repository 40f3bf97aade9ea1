pub mod DecodeCall
