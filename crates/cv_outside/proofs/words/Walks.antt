-- A subcommand's walk over parts that each stand once, in any order: it finds no fault, and the row of each part.
use Rattle.std.proofs.Common.{◌≡◌, ◌∙◌, ◌++◌, ◌&&◌, ◌||◌, ℕ, Bool, true, false, cond, Contains, List, [], ◌∷◌, append-nil, append_assoc, flat_map, fold, not, Some, None, unwrap_or, ap, ap₂, refl, subst, sym, if◌then◌else◌}
use Rattle.std.proofs.lemmas.List.Folds.{list_any-append}
use Rattle.std.proofs.lemmas.Slice.Eq.{bytes_eq-Decides}
use Rattle.std.specs.Str.{bytes_eq}
use Rattle.clap.specs.Faults.{set_fault, settle_fault, turn_fault, values_fault, walk_fault}
use Rattle.clap.specs.Kinds.{Kinds, or_else}
use Rattle.clap.specs.Simple.{Shape, new_rule}
use Rattle.clap.specs.Walk.{Held, Row, Rule, Walk, arg_by_id, finished, has_row, idle, nothing_held, reading_by, settled, walked, with_default, with_values, without}
use Rattle.clap.specs.declared.error.kind.ErrorKind.TheVariants as kind
use Rattle.clap.specs.declared.parser.matches.ValueSource.TheVariants.{CommandLine}
use Rattle.cv_outside.specs.words.Forms.{Part, Text, line, orders}
use Rattle.cv_outside.specs.words.Words.{asked_by, command_read}
use Rattle.cv_outside.proofs.words.Alike.{Alike, asked_alike, fault_alike, finished_alike, row_joins, row_made, rows_fault}
use Rattle.cv_outside.proofs.words.Arranged.{Apart, Every, Use, apart_arranged, arranged, every_arranged, found_arranged, parts_of, row_with, rows_by}
use Rattle.cv_outside.proofs.words.Lines.{IsSubcommand, line_asks}

-- where a walk stands between two parts, with so many operands read
abbrev pub at : Held → ℕ → Walk
at h position = record { held = h; waiting = idle; position = position; is_trailing = false; stopped = None }

-- the rows of what is held, with what is pending
abbrev pub rows_in : Shape → Held → List Row
rows_in s h = (settled s.rules h).rows

-- the place of the next operand, by the rows: a subcommand has one operand, of this name
abbrev pub place : (operand : Text) → List Row → ℕ
place operand rows = if has_row operand rows then 2 else 1

abbrev pub between : Shape → (operand : Text) → Held → Walk
between s operand h = at h (place operand (rows_in s h))

abbrev pub pending_fault : Shape → Held → Kinds
pending_fault s h = settle_fault s.rules s.args_override_self h

-- a part is read behind what is held: its row joins the others, and there is no fault
pub record Reads (s : Shape) (operand : Text) (h : Held) (u : Use) : Type 0 where
  pub after : Held
  pub walks : (rest : List Text) → fold (walked s.rules []) (between s operand h) (u.words ++ rest) ≡ fold (walked s.rules []) (between s operand after) rest
  pub faults : (rest : List Text) → walk_fault s [] (between s operand h) (u.words ++ rest) ≡ walk_fault s [] (between s operand after) rest
  pub rows : rows_in s after ≡ rows_in s h ++ u.row ∷ []
  pub pends : pending_fault s after ≡ []

-- so it is wherever the part stands, as long as none of its name stands before it
abbrev pub IsRead : Shape → (operand : Text) → Use → Type 0
IsRead s operand u = (h : Held) → pending_fault s h ≡ [] → has_row u.row.id (rows_in s h) ≡ false → Reads s operand h u

-- parts one by one

abbrev Unmet : List Row → List Use → Type 0
Unmet rows us = Every (λ u. has_row u.row.id rows ≡ false) us

unmet_first : (us : List Use) → Unmet [] us
unmet_first [] = tt
unmet_first (u ∷ us) = (refl, unmet_first us)

has_joined : (id : Text) (rows : List Row) (r : Row) (b c : Bool) → has_row id rows ≡ b → bytes_eq r.id id ≡ c → has_row id (rows ++ r ∷ []) ≡ (b || (c || false))
has_joined id rows r b c e f = list_any-append (λ x. bytes_eq x.id id) rows (r ∷ []) ∙ ap₂ (λ x y. x || (y || false)) e f

unmet_more : (rows : List Row) (u : Use) (us : List Use) → Unmet rows us → Every (λ v. (bytes_eq u.row.id v.row.id ≡ false) × (bytes_eq v.row.id u.row.id ≡ false)) us → Unmet (rows ++ u.row ∷ []) us
unmet_more rows u [] m d = tt
unmet_more rows u (v ∷ us) m d = (has_joined v.row.id rows u.row false false m.0 d.0.0, unmet_more rows u us m.1 d.1)

abbrev words_of : List Use → List Text
words_of us = flat_map (λ p. p) (parts_of us)

record ReadsAll (s : Shape) (operand : Text) (h : Held) (us : List Use) : Type 0 where
  after : Held
  walks : fold (walked s.rules []) (between s operand h) (words_of us) ≡ between s operand after
  faults : walk_fault s [] (between s operand h) (words_of us) ≡ []
  rows : rows_in s after ≡ rows_in s h ++ rows_by us
  pends : pending_fault s after ≡ []

reads_all : (s : Shape) (operand : Text) (us : List Use) (h : Held) → Every (IsRead s operand) us → Apart us → pending_fault s h ≡ [] → Unmet (rows_in s h) us → ReadsAll s operand h us
unfolding walk_fault
reads_all s operand [] h e a p m = record { after = h; walks = refl; faults = refl; rows = sym (append-nil (rows_in s h)); pends = p }
reads_all s operand (u ∷ us) h e a p m =
    let one = e.0 h p m.0 in
    let rest = reads_all s operand us one.after e.1 a.1 one.pends (subst (λ rows. Unmet rows us) (sym one.rows) (unmet_more (rows_in s h) u us m.1 a.0)) in
    record {
      after = rest.after;
      walks = one.walks (words_of us) ∙ rest.walks;
      faults = one.faults (words_of us) ∙ rest.faults;
      rows = rest.rows ∙ (ap (λ rows. rows ++ rows_by us) one.rows ∙ append_assoc (rows_in s h) (u.row ∷ []) (rows_by us));
      pends = rest.pends;
    }

-- what a line with such parts asks for goes by the rows of the parts in one order

pub parts_are_read : (program name operand : Text) (s : Shape) (us : List Use) (parts : List Part) → IsSubcommand program name s → s.arg_required_else_help ≡ false → Every (IsRead s operand) us → Apart us
    → rows_fault s (rows_by us) ≡ [] → Contains (orders (parts_of us)) parts → command_read (line program name parts) ≡ asked_by name (fold with_default (rows_by us) s.rules)
parts_are_read program name operand s us parts k plain e a f c =
    let found = arranged us parts c in
    let vs = found.0 in
    let end = reads_all s operand vs nothing_held (every_arranged (IsRead s operand) us vs found.2 e) (apart_arranged us vs found.2 a) refl (unmet_first vs) in
    let same : Alike (rows_in s end.after) (rows_by us) = λ id. ap (row_with id) end.rows ∙ found_arranged id us vs found.2 a in
    subst (λ ps. command_read (line program name ps) ≡ asked_by name (fold with_default (rows_by us) s.rules)) found.1
    (line_asks program name s (words_of vs) (between s operand end.after) k end.faults end.walks end.pends (fault_alike s (rows_in s end.after) (rows_by us) plain same ∙ f)
    ∙ asked_alike name (finished s.rules end.after) (fold with_default (rows_by us) s.rules) (finished_alike s.rules (rows_in s end.after) (rows_by us) same))

-- the forms of parts

-- the rule of a name
abbrev pub rule_in : Shape → Text → Rule
rule_in s id = unwrap_or (arg_by_id s.rules id) (new_rule [])

-- a part that gives a name this value
abbrev pub use_of : Shape → Part → (id value : Text) → Use
use_of s words id value = record { words = words; row = row_made id (reading_by (rule_in s id)) CommandLine (value ∷ []) }

abbrev pub row_put : Shape → (id value : Text) → List Row → List Row
row_put s id value rows = with_values id (reading_by (rule_in s id)) CommandLine (value ∷ []) (without id rows)

-- behind an operand or an option its value is pending; behind a flag there is a row
abbrev pub waits : Shape → (id value : Text) → Held → Held
waits s id value h = record { rows = rows_in s h; pending = Some (id, value ∷ []); skip = h.skip }

abbrev pub flagged : Shape → (id value : Text) → Held → Held
flagged s id value h = record { rows = row_put s id value (rows_in s h); pending = None; skip = h.skip }

-- a first use
pub first_use : (again : Bool) (a : Rule) (values : List Text) (rows : List Row) → has_row a.id rows ≡ false → set_fault again a values rows ≡ values_fault a values
first_use again a values rows n = ap (λ b. or_else (cond (b && not again) (kind.ArgumentConflict ∷ []) []) (values_fault a values)) n

or_false : (b : Bool) → (b || (false || false)) ≡ b
or_false true = refl
or_false false = refl

-- the place stays behind an option
stays : (operand : Text) (rows new : List Row) (r : Row) → bytes_eq r.id operand ≡ false → new ≡ rows ++ r ∷ [] → place operand new ≡ place operand rows
stays operand rows new r d e =
    ap (λ b. cond b 2 1) (ap (has_row operand) e ∙ (has_joined operand rows r (has_row operand rows) false refl d ∙ or_false (has_row operand rows)))

pub record IsOption (s : Shape) (flag id value : Text) : Type 0 where
  pub step : (h : Held) (p : ℕ) → walked s.rules [] (walked s.rules [] (at h p) flag) value ≡ at (waits s id value h) p
  pub turn : (h : Held) (p : ℕ) → turn_fault s [] (at h p) flag ≡ or_else (pending_fault s h) []
  pub next : (h : Held) (p : ℕ) → turn_fault s [] (walked s.rules [] (at h p) flag) value ≡ []
  pub row : (h : Held) → rows_in s (waits s id value h) ≡ row_put s id value (rows_in s h)
  pub fits : (h : Held) → has_row id (rows_in s h) ≡ false → pending_fault s (waits s id value h) ≡ []

pub option_is_read : (s : Shape) (operand flag id value : Text) → bytes_eq id operand ≡ false → IsOption s flag id value → IsRead s operand (use_of s (flag ∷ value ∷ []) id value)
unfolding walk_fault
option_is_read s operand flag id value d o h p n =
    let behind = waits s id value h in
    let here = place operand (rows_in s h) in
    let row = row_made id (reading_by (rule_in s id)) CommandLine (value ∷ []) in
    let rows : rows_in s behind ≡ rows_in s h ++ row ∷ [] = o.row h ∙ row_joins id (reading_by (rule_in s id)) CommandLine (value ∷ []) (rows_in s h) n in
    let step : walked s.rules [] (walked s.rules [] (at h here) flag) value ≡ between s operand behind = o.step h here ∙ ap (at behind) (sym (stays operand (rows_in s h) (rows_in s behind) row d rows)) in
    record {
      after = behind;
      walks = λ rest. ap (λ w. fold (walked s.rules []) w rest) step;
      faults = λ rest. ap₂ (λ x y. or_else x (or_else y (walk_fault s [] (walked s.rules [] (walked s.rules [] (at h here) flag) value) rest))) (o.turn h here ∙ ap (λ x. or_else x []) p) (o.next h here)
          ∙ ap (λ w. walk_fault s [] w rest) step;
      rows = rows;
      pends = o.fits h n;
    }

pub record IsOperand (s : Shape) (id value : Text) : Type 0 where
  pub step : (h : Held) → walked s.rules [] (at h 1) value ≡ at (waits s id value h) 2
  pub turn : (h : Held) → turn_fault s [] (at h 1) value ≡ pending_fault s h
  pub row : (h : Held) → rows_in s (waits s id value h) ≡ row_put s id value (rows_in s h)
  pub fits : (h : Held) → has_row id (rows_in s h) ≡ false → pending_fault s (waits s id value h) ≡ []

pub operand_is_read : (s : Shape) (id value : Text) → IsOperand s id value → IsRead s id (use_of s (value ∷ []) id value)
unfolding walk_fault
operand_is_read s id value o h p n =
    let behind = waits s id value h in
    let row = row_made id (reading_by (rule_in s id)) CommandLine (value ∷ []) in
    let rows : rows_in s behind ≡ rows_in s h ++ row ∷ [] = o.row h ∙ row_joins id (reading_by (rule_in s id)) CommandLine (value ∷ []) (rows_in s h) n in
    let first : place id (rows_in s h) ≡ 1 = ap (λ b. cond b 2 1) n in
    let second : place id (rows_in s behind) ≡ 2 = ap (λ b. cond b 2 1) (ap (has_row id) rows ∙ has_joined id (rows_in s h) row false true n ((bytes_eq-Decides id id).1 refl)) in
    let step : walked s.rules [] (between s id h) value ≡ between s id behind = ap (λ k. walked s.rules [] (at h k) value) first ∙ (o.step h ∙ ap (at behind) (sym second)) in
    record {
      after = behind;
      walks = λ rest. ap (λ w. fold (walked s.rules []) w rest) step;
      faults = λ rest. ap₂ (λ x w. or_else x (walk_fault s [] w rest)) (ap (λ k. turn_fault s [] (at h k) value) first ∙ (o.turn h ∙ p)) step;
      rows = rows;
      pends = o.fits h n;
    }

pub record IsFlag (s : Shape) (flag id value : Text) : Type 0 where
  pub step : (h : Held) (p : ℕ) → walked s.rules [] (at h p) flag ≡ at (flagged s id value h) p
  pub turn : (h : Held) (p : ℕ) → has_row id (rows_in s h) ≡ false → turn_fault s [] (at h p) flag ≡ or_else (or_else (pending_fault s h) []) []

pub flag_is_read : (s : Shape) (operand flag id value : Text) → bytes_eq id operand ≡ false → IsFlag s flag id value → IsRead s operand (use_of s (flag ∷ []) id value)
unfolding walk_fault
flag_is_read s operand flag id value d o h p n =
    let behind = flagged s id value h in
    let here = place operand (rows_in s h) in
    let row = row_made id (reading_by (rule_in s id)) CommandLine (value ∷ []) in
    let rows : rows_in s behind ≡ rows_in s h ++ row ∷ [] = row_joins id (reading_by (rule_in s id)) CommandLine (value ∷ []) (rows_in s h) n in
    let step : walked s.rules [] (at h here) flag ≡ between s operand behind = o.step h here ∙ ap (at behind) (sym (stays operand (rows_in s h) (rows_in s behind) row d rows)) in
    record {
      after = behind;
      walks = λ rest. ap (λ w. fold (walked s.rules []) w rest) step;
      faults = λ rest. ap₂ (λ x w. or_else x (walk_fault s [] w rest)) (o.turn h here n ∙ ap (λ x. or_else (or_else x []) []) p) step;
      rows = rows;
      pends = refl;
    }
