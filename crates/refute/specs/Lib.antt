pub mod RefuteCall
