pub mod Picture
pub mod PictureLaws
