pub mod LineLaws
mod RowLaws
mod BaseLaws
mod TextLaws
pub mod ReadBackLaws
pub mod PageLaws
pub mod FileLaws
pub mod PrintLaws
pub mod RequestLaws
pub mod Claims
