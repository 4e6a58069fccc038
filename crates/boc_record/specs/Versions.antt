-- The versions of record texts, as the reader names them.
use Rattle.boc_record.specs.RecordTexts as texts
use Rattle.boc_record.specs.declared.version.Version.{Version}
use Rattle.boc_record.specs.declared.version.Version.TheVariants.{First, Second}

-- the version that is named
abbrev pub spelling : Version → texts.Version
spelling First = texts.First
spelling Second = texts.Second
