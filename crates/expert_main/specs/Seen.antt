-- What the code's types are seen as.
use Rattle.expert_main.specs.Words as meant
use Rattle.expert_main.specs.declared.words.Command.{Command}
use Rattle.expert_main.specs.declared.words.Piece.{Piece}
use Rattle.expert_main.specs.declared.words.Piece.TheVariants as piece
use Rattle.expert_main.specs.declared.words.Setting.{Setting}
use Rattle.expert_main.specs.declared.words.Setting.TheVariants as setting

abbrev pub seen_piece : Piece → meant.Piece
seen_piece (piece.Sql text) = meant.Sql text.now
seen_piece (piece.File name) = meant.File name.now

abbrev pub seen_setting : Setting → meant.Setting
seen_setting (setting.Script piece) = meant.Script (seen_piece piece)
seen_setting (setting.Sample percent) = meant.Sample percent
seen_setting (setting.Stat source) = meant.Stat source
seen_setting (setting.Verbose long) = meant.Verbose long

abbrev pub seen_command : Command → meant.Command
seen_command command = record {
  pieces = meant.pieces_of (meant.settings_among command.words.now);
  percent = command.percent;
  source = command.source;
  verbose = command.verbose;
  database = command.database.now;
}

-- the command, where these words stand behind those that were read
abbrev pub completed : Command → meant.Spelled → meant.Command
completed command behind = record {
  pieces = meant.pieces_of (meant.settings_among command.words.now);
  percent = meant.percent_in command.percent behind.settings;
  source = meant.source_in command.source behind.settings;
  verbose = meant.verbose_in command.verbose behind.settings;
  database = behind.database;
}
