pub mod SiteTexts
pub mod Tagging
pub mod Worked
