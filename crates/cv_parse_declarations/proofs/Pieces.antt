-- Pieces of a proof block, one after another.
use Rattle.std.proofs.Common.{◌≡◌, ℕ, ◌-◌, ◌<◌, ◌≤◌, Bool, true, false, not, ◌||◌, List, [], ◌∷◌, ◌++◌, length, drop, refl, sym, arith, subst, length-drop, Result}
use Rattle.cv_parse_notation.specs.declared.sign.Sign.{Sign}
use Rattle.cv_parse_notation.specs.declared.sign.Mark.TheVariants as mark
use Rattle.cv_parse_notation.specs.Spells.{AFind, AMark, ANumber, AWord, AnUnnamed, Kind, Zero, is_mark, kind_of, next_is, starts}
use Rattle.cv_parse_notation.specs.Reads.{Read}
use Rattle.cv_parse_notation.proofs.Sound.{same_mark_eq}
use Rattle.cv_parse_grammar.specs.declared.role.Role.{Role}
use Rattle.cv_parse_grammar.specs.Phrases.{Sort}
use Rattle.cv_parse_grammar.specs.Rules.{heads, matched, rule}
use Rattle.cv_parse_terms.specs.declared.lookahead.ReadError.{ReadError}
use Rattle.cv_parse_terms.specs.Gives.{below, read_in}
use Rattle.cv_parse_terms.proofs.Levels.{below_is}
use Rattle.cv_parse_terms.proofs.Places.{past_end, plain_read}
use Rattle.cv_parse_terms.proofs.Rows.{SoFar, many_begins, many_done, many_goes, read_grows}
use Rattle.cv_parse_declarations.proofs.signature.Listed.{plain_of}
use Rattle.cv_parse_declarations.specs.Blocks.{IsPassed, PassesTree, piece}

-- how a piece begins

apart : (k : Kind) → is_mark mark.OpenBrace k ≡ true → is_mark mark.CloseBrace k ≡ false
apart (AWord w) h = refl
apart ANumber h = refl
apart Zero h = refl
apart AFind h = refl
apart AnUnnamed h = refl
apart (AMark m) h = let e = same_mark_eq m mark.OpenBrace h in subst (λ j. is_mark mark.CloseBrace (AMark j) ≡ false) (sym e) refl

not_closing : (a b : Bool) → (a ≡ true → b ≡ false) → not b ≡ (a || not (a || b))
not_closing true true h = absurd (let e = h refl in cc)
not_closing true false h = refl
not_closing false b h = refl

begins_here : (ts : List Sign) → 0 < length ts → not (next_is (is_mark mark.CloseBrace) ts) ≡ next_is (starts heads piece) ts
begins_here [] h = absurd (omega arith)
begins_here (t ∷ ts) h = not_closing (is_mark mark.OpenBrace (kind_of t)) (is_mark mark.CloseBrace (kind_of t)) (apart (kind_of t))

pub piece_begins : (at : ℕ) (all : List Sign) → at < length all → not (next_is (is_mark mark.CloseBrace) (drop at all)) ≡ next_is (starts heads piece) (drop at all)
piece_begins at all h = begins_here (drop at all) (omega (arith, length-drop at all))

pub ruleset pieces = (piece_begins, past_end)

-- a piece

-- one level down
pub passes_below : (all : List Sign) (r : Result ℕ ReadError) (n : ℕ) (s : Sort) (ts : List Sign) → 0 < n → PassesTree all r (read_in (n - 1) (rule s) ts) → PassesTree all r (below n s ts)
passes_below all r n s ts h d = subst (λ x. PassesTree all r x) (sym (below_is rule n (n - 1) s ts (omega arith))) d

pub ruleset choices = (passes_below)

-- the pieces so far
pub record PiecesSoFar (n : ℕ) (all : List Sign) (whole : Read Role (List (Unit {0}))) (place : ℕ) : Type 0 where
  pub value : List (Unit {0})
  pub read : SoFar n piece all [] [] whole value place

pub pieces_begin : (n : ℕ) (all : List Sign) (at : ℕ) → at ≤ length all → PiecesSoFar n all (read_in n matched (drop at all)) at
pieces_begin n all at l = record { value = []; read = many_begins n piece all [] at l }

pub pieces_go : (n : ℕ) (all : List Sign) (whole : Read Role (List (Unit {0}))) (p q : ℕ) → PiecesSoFar n all whole p → next_is (starts heads piece) (drop p all) ≡ true → IsPassed all (read_in n piece (drop p all)) q → PiecesSoFar n all whole q
pieces_go n all whole p q so b d = record { value = so.value ++ d.value ∷ []; read = many_goes n piece refl refl all [] [] [] whole so.value _ p d.value q so.read b (plain_read [] d.plain) refl }

pub pieces_done : (n : ℕ) (all : List Sign) (whole : Read Role (List (Unit {0}))) (p : ℕ) → PiecesSoFar n all whole p → next_is (starts heads piece) (drop p all) ≡ false → IsPassed all whole p
pieces_done n all whole p so b = record { value = so.value; plain = plain_of whole (many_done n piece refl refl all [] [] whole so.value p so.read b) }

pub pieces_nearer : (n : ℕ) (all : List Sign) (p q : ℕ) → p ≤ length all → IsPassed all (read_in n piece (drop p all)) q → length all - q < length all - p
pieces_nearer n all p q l d = read_grows n piece refl refl all [] [] p q d.value l (plain_read [] d.plain)
