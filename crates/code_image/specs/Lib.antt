pub mod CodeImage
