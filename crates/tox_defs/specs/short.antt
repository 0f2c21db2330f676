-- Short forms.
pub mod Pairs
pub mod Short
pub mod Printed
