pub mod SpaceText
