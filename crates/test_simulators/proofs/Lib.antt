pub mod ToggleSound
