-- What each form asks for, and that it finds no fault, by the rows of its parts in the order in which the form names them.
use Rattle.std.proofs.Common.{◌≡◌, ◌++◌, Bool, true, false, List, [], ◌∷◌, fold, Option, Some, None, codes, refl}
use Rattle.clap.specs.Simple.{Shape}
use Rattle.clap.specs.Walk.{with_default}
use Rattle.clap.proofs.OnLiterals.{clap_on_literals}
use Rattle.cv_outside.specs.words.Forms.{Asked, Part, Text, flagged, valued}
use Rattle.cv_outside.specs.words.Words.{asked_by, games_asked, prove_asked, sample_asked}
use Rattle.cv_outside.proofs.words.Alike.{rows_fault}
use Rattle.cv_outside.proofs.words.Arranged.{Use, are_apart, parts_of, rows_by}
use Rattle.cv_outside.proofs.words.Parts.{flag_use, games_file_use, games_lib_use, games_shape, more_use, moves_use, number_use, prove_file_use, prove_lib_use, prove_shape, query_use, sample_shape}

-- these parts, which no two are of one name, have no fault and ask for this
pub record Asks (s : Shape) (name : Text) (us : List Use) (parts : List Part) (asked : Option Asked) : Type 0 where
  pub words : parts_of us ≡ parts
  pub apart : are_apart us ≡ true
  pub fault : rows_fault s (rows_by us) ≡ []
  pub asks : asked_by name (fold with_default (rows_by us) s.rules) ≡ asked

-- an option that may be given, and a flag

abbrev pub given : (Text → Use) → Option Text → List Use
given gives None = []
given gives (Some value) = gives value ∷ []

abbrev pub set : Use → Bool → List Use
set gives false = []
set gives true = gives ∷ []

abbrev pub flag_text : Bool → Text
flag_text false = codes "false"
flag_text true = codes "true"

abbrev pub prove_uses : (file : Text) (moves : Option Text) (more : Bool) (library query : Option Text) → List Use
prove_uses file moves more library query = prove_file_use file ∷ (given moves_use moves ++ (set more_use more ++ (given prove_lib_use library ++ given query_use query)))

pub prove_asks : (file : Text) (moves : Option Text) (more : Bool) (library query : Option Text)
    → Asks prove_shape (codes "prove") (prove_uses file moves more library query)
    ((file ∷ []) ∷ (valued (codes "--moves") moves ++ (flagged (codes "--more") more ++ (valued (codes "--lib") library ++ valued (codes "--query") query))))
    (prove_asked (Some file) moves (Some (flag_text more)) library query)
unfolding clap_on_literals
prove_asks file None false None None = record { words = refl; apart = refl; fault = refl; asks = refl }
prove_asks file None false None (Some k) = record { words = refl; apart = refl; fault = refl; asks = refl }
prove_asks file None false (Some l) None = record { words = refl; apart = refl; fault = refl; asks = refl }
prove_asks file None false (Some l) (Some k) = record { words = refl; apart = refl; fault = refl; asks = refl }
prove_asks file None true None None = record { words = refl; apart = refl; fault = refl; asks = refl }
prove_asks file None true None (Some k) = record { words = refl; apart = refl; fault = refl; asks = refl }
prove_asks file None true (Some l) None = record { words = refl; apart = refl; fault = refl; asks = refl }
prove_asks file None true (Some l) (Some k) = record { words = refl; apart = refl; fault = refl; asks = refl }
prove_asks file (Some n) false None None = record { words = refl; apart = refl; fault = refl; asks = refl }
prove_asks file (Some n) false None (Some k) = record { words = refl; apart = refl; fault = refl; asks = refl }
prove_asks file (Some n) false (Some l) None = record { words = refl; apart = refl; fault = refl; asks = refl }
prove_asks file (Some n) false (Some l) (Some k) = record { words = refl; apart = refl; fault = refl; asks = refl }
prove_asks file (Some n) true None None = record { words = refl; apart = refl; fault = refl; asks = refl }
prove_asks file (Some n) true None (Some k) = record { words = refl; apart = refl; fault = refl; asks = refl }
prove_asks file (Some n) true (Some l) None = record { words = refl; apart = refl; fault = refl; asks = refl }
prove_asks file (Some n) true (Some l) (Some k) = record { words = refl; apart = refl; fault = refl; asks = refl }

abbrev pub games_uses : (file : Text) (library : Option Text) → List Use
games_uses file library = games_file_use file ∷ given games_lib_use library

pub games_asks : (file : Text) (library : Option Text) → Asks games_shape (codes "games") (games_uses file library) ((file ∷ []) ∷ valued (codes "--lib") library) (games_asked (Some file) library)
unfolding clap_on_literals
games_asks file None = record { words = refl; apart = refl; fault = refl; asks = refl }
games_asks file (Some l) = record { words = refl; apart = refl; fault = refl; asks = refl }

abbrev pub sample_uses : (number : Text) (prove : Bool) → List Use
sample_uses number prove = number_use number ∷ set flag_use prove

pub sample_asks : (number : Text) (prove : Bool) → Asks sample_shape (codes "sample") (sample_uses number prove) ((number ∷ []) ∷ flagged (codes "--prove") prove) (sample_asked (Some number) (Some (flag_text prove)))
unfolding clap_on_literals
sample_asks number false = record { words = refl; apart = refl; fault = refl; asks = refl }
sample_asks number true = record { words = refl; apart = refl; fault = refl; asks = refl }
