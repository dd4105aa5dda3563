pub mod QuietImages
