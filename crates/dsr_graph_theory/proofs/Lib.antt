pub mod FirstKept
