-- What was read of a file and a library.
use Rattle.std.specs.Prelude.{option_map}
use Rattle.cv_library.specs.Givens.{Given}
use Rattle.cv.specs.declared.asked.Source.{Source}

abbrev pub given_of : Source → Given
given_of s = record { bytes = s.bytes.items; library = option_map (λ more. more.items) s.library }
