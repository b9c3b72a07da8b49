-- What a line comes to, by what its subcommand makes of the words behind the name.
use Rattle.std.proofs.Common.{◌≡◌, ◌∙◌, ◌++◌, ◌==◌, false, List, [], ◌∷◌, append-nil, append_assoc, length, Option, Some, None, option_and_then, unwrap_or, codes, if◌then◌else◌, ap, ap₂, refl, sym, fold, find}
use Rattle.std.specs.Prelude.{is_some}
use Rattle.clap.specs.Faults.{check_fault, defaults_fault, entered_fault, fault_of, level_fault, settle_fault, walk_fault}
use Rattle.clap.specs.Kinds.{Kinds, or_else}
use Rattle.clap.specs.Simple.{Shape, built, entered, label_of, names_of, new_shape, subcommand_of}
use Rattle.clap.specs.Walk.{Held, Names, Row, Rule, Walk, answers_to, finished, nothing_held, rows_after, settled, walk, walk_from, walked}
use Rattle.clap.proofs.OnLiterals.{clap_on_literals}
use Rattle.cv_outside.specs.words.Clap.{cv_app}
use Rattle.cv_outside.specs.words.Forms.{Asked, Text}
use Rattle.cv_outside.specs.words.Words.{asked_by, command_read}
use Rattle.cv_outside.proofs.words.Alike.{rows_fault}

-- the subcommands as they are built
abbrev pub shape_named : Text → Shape
shape_named name = unwrap_or (find (λ s. answers_to name (label_of s)) (built cv_app).subs) (new_shape [])

-- behind the name of a subcommand nothing more is read

stopped_walk : (c : List Rule) (names : Names) (w : Walk) (name : Text) (before words : List Text) → fold (walked c names) (record w { stopped = Some (name, before) }) words ≡ record w { stopped = Some (name, before ++ words) }
unfolding walked
stopped_walk c names w name before [] = ap (λ ws. let v : Walk = record w { stopped = Some (name, ws) } in v) (sym (append-nil before))
stopped_walk c names w name before (word ∷ words) =
    stopped_walk c names w name (before ++ word ∷ []) words ∙ ap (λ ws. let v : Walk = record w { stopped = Some (name, ws) } in v) (append_assoc before (word ∷ []) words)

stopped_fault : (s : Shape) (names : Names) (w : Walk) (name : Text) (before words : List Text) → walk_fault s names (record w { stopped = Some (name, before) }) words ≡ []
unfolding walk_fault walked
stopped_fault s names w name before [] = refl
stopped_fault s names w name before (word ∷ words) = stopped_fault s names w name (before ++ word ∷ []) words

-- the fault of the whole line, by where its walk stops and by the fault on the way
abbrev top_fault : Walk → Kinds → Kinds
top_fault k t =
    let a = built cv_app in
    or_else t (or_else (entered_fault a k.stopped) (or_else (settle_fault a.top.rules a.top.args_override_self k.held)
    (or_else (defaults_fault (settled a.top.rules k.held).rows a.top.rules) (check_fault a.top (finished a.top.rules k.held) (is_some (entered a k.stopped))))))

prove_fault : (program : Text) (words : List Text) → fault_of cv_app (program ∷ codes "prove" ∷ words) ≡ or_else (level_fault (shape_named (codes "prove")) [] nothing_held words false []) []
unfolding clap_on_literals
prove_fault program words =
    let a = built cv_app in
    ap₂ top_fault (stopped_walk a.top.rules (names_of a) (walk_from nothing_held) (codes "prove") [] words) (stopped_fault a.top (names_of a) (walk_from nothing_held) (codes "prove") [] words)

prove_found : (program : Text) (words : List Text) → subcommand_of cv_app (program ∷ codes "prove" ∷ words) ≡ Some (codes "prove", rows_after (shape_named (codes "prove")).rules [] words)
unfolding clap_on_literals
prove_found program words =
    let a = built cv_app in
    ap (λ (k : Walk). entered a k.stopped) (stopped_walk a.top.rules (names_of a) (walk_from nothing_held) (codes "prove") [] words)

games_fault : (program : Text) (words : List Text) → fault_of cv_app (program ∷ codes "games" ∷ words) ≡ or_else (level_fault (shape_named (codes "games")) [] nothing_held words false []) []
unfolding clap_on_literals
games_fault program words =
    let a = built cv_app in
    ap₂ top_fault (stopped_walk a.top.rules (names_of a) (walk_from nothing_held) (codes "games") [] words) (stopped_fault a.top (names_of a) (walk_from nothing_held) (codes "games") [] words)

games_found : (program : Text) (words : List Text) → subcommand_of cv_app (program ∷ codes "games" ∷ words) ≡ Some (codes "games", rows_after (shape_named (codes "games")).rules [] words)
unfolding clap_on_literals
games_found program words =
    let a = built cv_app in
    ap (λ (k : Walk). entered a k.stopped) (stopped_walk a.top.rules (names_of a) (walk_from nothing_held) (codes "games") [] words)

sample_fault : (program : Text) (words : List Text) → fault_of cv_app (program ∷ codes "sample" ∷ words) ≡ or_else (level_fault (shape_named (codes "sample")) [] nothing_held words false []) []
unfolding clap_on_literals
sample_fault program words =
    let a = built cv_app in
    ap₂ top_fault (stopped_walk a.top.rules (names_of a) (walk_from nothing_held) (codes "sample") [] words) (stopped_fault a.top (names_of a) (walk_from nothing_held) (codes "sample") [] words)

sample_found : (program : Text) (words : List Text) → subcommand_of cv_app (program ∷ codes "sample" ∷ words) ≡ Some (codes "sample", rows_after (shape_named (codes "sample")).rules [] words)
unfolding clap_on_literals
sample_found program words =
    let a = built cv_app in
    ap (λ (k : Walk). entered a k.stopped) (stopped_walk a.top.rules (names_of a) (walk_from nothing_held) (codes "sample") [] words)

-- what is asked by a line in which there is no fault, by the rows behind its subcommand

abbrev asked_in : Option (Text × List Row) → Option Asked
asked_in = option_and_then (λ p. asked_by p.0 p.1)

read : (words : List Text) (name : Text) (rows : List Row) → fault_of cv_app words ≡ [] → subcommand_of cv_app words ≡ Some (name, rows) → command_read words ≡ asked_by name rows
unfolding command_read
read words name rows f s = ap (λ ks. asked_in (if length ks == 0 then subcommand_of cv_app words else None)) f ∙ ap asked_in s

-- a subcommand of this name and this shape stands behind the program's name
pub record IsSubcommand (program name : Text) (s : Shape) : Type 0 where
  pub fault : (words : List Text) → fault_of cv_app (program ∷ name ∷ words) ≡ or_else (level_fault s [] nothing_held words false []) []
  pub found : (words : List Text) → subcommand_of cv_app (program ∷ name ∷ words) ≡ Some (name, rows_after s.rules [] words)

-- the faults behind a walk: of what is pending, and of the rows
abbrev end_fault : Shape → Held → Kinds
end_fault s h = or_else (settle_fault s.rules s.args_override_self h) (rows_fault s (settled s.rules h).rows)

pub line_asks : (program name : Text) (s : Shape) (words : List Text) (e : Walk) → IsSubcommand program name s → walk_fault s [] (walk_from nothing_held) words ≡ [] → walk s.rules [] nothing_held words ≡ e
    → settle_fault s.rules s.args_override_self e.held ≡ [] → rows_fault s (settled s.rules e.held).rows ≡ [] → command_read (program ∷ name ∷ words) ≡ asked_by name (finished s.rules e.held)
line_asks program name s words e k f w p r =
    let end : end_fault s e.held ≡ [] = ap (λ t. or_else t (rows_fault s (settled s.rules e.held).rows)) p ∙ r in
    let level : level_fault s [] nothing_held words false [] ≡ [] = ap (λ t. or_else t (end_fault s (walk s.rules [] nothing_held words).held)) f ∙ (ap (λ (v : Walk). end_fault s v.held) w ∙ end) in
    read (program ∷ name ∷ words) name (finished s.rules e.held) (k.fault words ∙ ap (λ t. or_else t []) level)
    (k.found words ∙ ap (λ (v : Walk). let o : Option (Text × List Row) = Some (name, finished s.rules v.held) in o) w)

pub prove_line : (program : Text) → IsSubcommand program (codes "prove") (shape_named (codes "prove"))
prove_line program = record { fault = prove_fault program; found = prove_found program }

pub games_line : (program : Text) → IsSubcommand program (codes "games") (shape_named (codes "games"))
games_line program = record { fault = games_fault program; found = games_found program }

pub sample_line : (program : Text) → IsSubcommand program (codes "sample") (shape_named (codes "sample"))
sample_line program = record { fault = sample_fault program; found = sample_found program }
