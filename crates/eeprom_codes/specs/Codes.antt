-- The numbers that stand for the models and the modes outside this library, of crate eeprom.
-- Assumes nothing.
pub use Rattle.eeprom.specs.Codes.{model_number, mode_number, model_of, mode_of, known_model, known_mode, model_read, mode_read}
