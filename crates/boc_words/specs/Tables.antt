-- What stands in the tables of the sources.
use Rattle.std.specs.Prelude.{List, map}
use Rattle.clap.specs.Words.{Text}
use Rattle.boc_words.specs.declared.arguments.Argument.{Argument as Listed}
use Rattle.boc_words.specs.declared.arguments.Argument.TheVariants as listed
use Rattle.boc_words.specs.declared.arguments.NumberOption.{NumberOption as ListedOption}
use Rattle.boc_words.specs.declared.commands.Entry.{Entry}
use Rattle.boc_words.specs.Commands.{Argument, NumberOption, flag, needed, number, operand, operands, repeated}

-- the option that is listed
abbrev pub option_of : ListedOption → NumberOption
option_of option = record { id = option.id.now; letter = option.letter; numbers = option.numbers }

-- the argument that is listed
abbrev pub argument_of : Listed → Argument
argument_of (listed.Number option) = number (option_of option)
argument_of (listed.Flag option) = flag option.id.now
argument_of (listed.Repeated option) = repeated option.id.now
argument_of (listed.Needed word) = needed word.id.now
argument_of (listed.Word word) = operand word.id.now
argument_of (listed.Words words) = operands words.id.now

-- the name of the command that is listed, and which arguments it takes
abbrev pub listed_as : Entry → Text × List Argument
listed_as entry = (entry.name.now, map argument_of entry.takes.now)
