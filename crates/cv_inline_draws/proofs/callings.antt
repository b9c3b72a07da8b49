pub mod CallWalks
pub mod Lists
pub mod RightSides
pub mod SiteLists
pub mod Agreement
pub mod KeyTerms
