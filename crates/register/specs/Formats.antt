-- How this repository judges entries and bytes.
-- Assumes nothing.
use Rattle.licence.specs.Entry.{is_licence}
use Rattle.message.specs.Layout.{unpack_of}
use Rattle.register.specs.Steps.{Formats}

-- a licence entry is `licence`'s, a message is eleven bytes that `message` unpacks
abbrev pub formats : Formats
formats = record { is_licence = λ entry. is_licence entry.0; unpack = unpack_of }
