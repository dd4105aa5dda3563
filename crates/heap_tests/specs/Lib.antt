pub mod ArrayImages
