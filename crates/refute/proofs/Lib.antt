pub mod RefuteLaws
