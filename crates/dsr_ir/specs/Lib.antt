pub mod Exprs
pub mod Formulas
pub mod Layouts
pub mod Rules
