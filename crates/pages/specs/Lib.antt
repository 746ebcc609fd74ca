pub mod Pages
pub mod PagesLaws
pub mod Examples
