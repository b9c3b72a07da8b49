-- What a row reads, as its reader says it.
use Rattle.std.proofs.Common.{◌≡◌, ℕ, Bool, true, false, ◌-◌, ◌<◌, ◌≤◌, List, [], ◌++◌, length, drop, ap, sym, subst, ◌∙◌, lit<, Result, Ok, Err}
use Rattle.std.proofs.lemmas.List.{length-map}
use Rattle.std.specs.Borrow.{Bor}
use Rattle.cv_syntax.specs.Postorder.{postorder}
use Rattle.cv_syntax.specs.declared.make.Make.{Make}
use Rattle.cv_parse_notation.specs.declared.sign.Sign.{Sign}
use Rattle.cv_parse_notation.specs.declared.sign.Mark.TheVariants as mark
use Rattle.cv_parse_notation.specs.Reads.{Fault, Read, Syntax, Nesting}
use Rattle.cv_parse_grammar.specs.declared.role.Role.{Role}
use Rattle.cv_parse_grammar.specs.Marks.{rule_of, term_of}
use Rattle.cv_parse_grammar.specs.Phrases.{Phrase, Term, Subscript, OneCell}
use Rattle.cv_parse_grammar.specs.Terms.{cell, term, terms}
use Rattle.cv_parse_terms.specs.declared.lookahead.ReadError.{ReadError}
use Rattle.cv_parse_terms.specs.declared.lookahead.ReadError.TheVariants as error
use Rattle.cv_parse_terms.specs.declared.piece.Ahead.TheVariants as ahead
use Rattle.cv_parse_terms.specs.declared.piece.Piece.{Piece}
use Rattle.cv_parse_terms.specs.declared.trail.Trail.{Trail}
use Rattle.cv_parse_terms.specs.Gives.{Fails, IsRead, Makes, below_marked, read_by, read_in, read_marked}
use Rattle.cv_parse_terms.specs.Tables.{Parts, Runs, Stops, Work, parts_of, put, row_in, rows_of, work_of}
use Rattle.cv_parse_terms.specs.TermRows.{Enters, EntersAlone, EntersBy, row_count, row_in_table, rows_of_terms}
use Rattle.cv_parse_terms.proofs.Walks.{row_law}
use Rattle.cv_parse_terms.proofs.Saying.{SaysBy, adds, deeper_says}
use Rattle.cv_parse_terms.proofs.TermSays.{DeepBy, deep, says_cell, says_inner, says_inner_cell, says_term, says_terms}

-- what was put is what was read, with its parts

abbrev work_or : Work → Result Work Fault → Work
work_or w (Ok v) = v
work_or w (Err e) = w

from_done : (v w : Work) → (let r : Result Work Fault = Ok v in r) ≡ Ok w → v ≡ w
from_done v w e = ap (work_or v) e

-- something was read, and what its value makes stands there with the names that wait
pub record IsPut {A : Type 0} (e : A → Parts → Parts) (all : List Sign) (old new : Trail) (names : List ℕ) (reading : Read Role A) (end : ℕ) : Type 0 where
  pub value : A
  pub read : IsRead all old.uses.items new.uses.items reading value end
  pub parts : parts_of new names ≡ e value (parts_of old [])

put_of : {A : Type 0} (e : A → Parts → Parts) (all : List Sign) (old new : Trail) (at end : ℕ) (ns : List ℕ) (r : Read Role A) → end ≤ length all → put e (work_of old [] (drop at all)) r ≡ Ok (work_of new ns (drop end all)) → IsPut e all old new ns r end
put_of e all old new at end ns (Ok x) l h =
    let i = from_done (record { parts = e x.value (parts_of old []); uses = (work_of old [] (drop at all)).uses ++ x.uses; rest = x.rest }) (work_of new ns (drop end all)) h in
    record {
      value = x.value;
      read = record {
        uses = x.uses;
        is = ap (λ ts. let y : Read Role _ = Ok (record { value = x.value; uses = x.uses; rest = ts }) in y) (ap (λ (w : Work). w.rest) i);
        noted = sym (ap (λ (w : Work). w.uses) i);
        within = l;
      };
      parts = sym (ap (λ (w : Work). w.parts) i);
    }
put_of e all old new at end ns (Err f) l h = absurd (cc)

failed_of : {A : Type 0} (e : A → Parts → Parts) (w : Work) (r : Read Role A) (f : Fault) → put e w r ≡ Err f → r ≡ Err f
failed_of e w (Ok x) f h = absurd (cc)
failed_of e w (Err g) f h = let i : g ≡ f = cc in ap (λ y. let s : Read Role _ = Err y in s) i

fails_of : {A : Type 0} (e : A → Parts → Parts) (all : List Sign) (x : ReadError) (w : Work) (r : Read Role A) (s : Result Work Fault) → s ≡ put e w r → Stops all x s → Fails all x r
fails_of e all (error.Syntax k) w r s i h = (h.0, failed_of e w r (Syntax (length all - k)) (sym i ∙ h.1))
fails_of e all (error.Nesting k) w r s i h = (h.0, failed_of e w r (Nesting (length all - k)) (sym i ∙ h.1))
fails_of e all error.OutOfMemory w r s i h = tt

pub enters_put : {marks : Bool} {A : Type 0} {f : Phrase A} {e : A → Parts → Parts} (n r : ℕ) (all : List Sign) (at end : ℕ) (old new : Trail) (ns : List ℕ) → r < row_count → SaysBy marks n r (row_in_table marks r) f e → EntersBy marks r n all at old [] (Ok end) new ns → IsPut e all old new ns (read_by (rule_of marks) n f (drop at all)) end
enters_put {marks = marks} {f = f} {e = e} n r all at end old new ns h s (l, k) =
    put_of e all old new at end ns (read_by (rule_of marks) n f (drop at all)) l (sym (row_law (rows_of_terms marks) n row_count r (work_of old [] (drop at all)) h ∙ s.law (work_of old [] (drop at all))) ∙ k)

pub enters_fails : {marks : Bool} {A : Type 0} {f : Phrase A} {e : A → Parts → Parts} (n r : ℕ) (all : List Sign) (at : ℕ) (old : Trail) (x : ReadError) → r < row_count → SaysBy marks n r (row_in_table marks r) f e → Stops all x (row_in (rows_of_terms marks) n row_count r (work_of old [] (drop at all))) → Fails all x (read_by (rule_of marks) n f (drop at all))
enters_fails {marks = marks} {f = f} {e = e} n r all at old x h s k =
    fails_of e all x (work_of old [] (drop at all)) (read_by (rule_of marks) n f (drop at all)) (row_in (rows_of_terms marks) n row_count r (work_of old [] (drop at all)))
    (row_law (rows_of_terms marks) n row_count r (work_of old [] (drop at all)) h ∙ s.law (work_of old [] (drop at all))) k

pub enters_says : {marks : Bool} {A : Type 0} {f : Phrase A} (emit : A → List Make) (n r : ℕ) (all : List Sign) (at : ℕ) (old new : Trail) (result : Result ℕ ReadError) → r < row_count → SaysBy marks n r (row_in_table marks r) f (λ a. adds (emit a)) → EntersAlone marks r n all at old result new → Makes emit all old new result (read_by (rule_of marks) n f (drop at all))
enters_says {marks = marks} {f = f} emit n r all at old new (Ok end) h s (ns, k) =
    let d : IsPut (λ a. adds (emit a)) all old new ns (read_by (rule_of marks) n f (drop at all)) end = enters_put {marks = marks} n r all at end old new ns h s k in
    record { value = d.value; read = d.read; makes = ap (λ (q : Parts). q.makes) d.parts }
enters_says {marks = marks} emit n r all at old new (Err x) h s (ns, k) = enters_fails {marks = marks} n r all at old x h s k

-- the program's table is the one of the definition
pub enters_table : (marks : Bool) (rows : List (Bor (List Piece))) (n r : ℕ) (all : List Sign) (result : Result ℕ ReadError) (new : Trail) (ns : List ℕ) (w : Work) → rows_of rows ≡ rows_of_terms marks → Runs all result new ns (row_in (rows_of rows) n (length rows) r w) → Runs all result new ns (row_in (rows_of_terms marks) n row_count r w)
enters_table marks rows n r all result new ns w e h =
    subst (λ t. Runs all result new ns (row_in t n row_count r w)) e (subst (λ j. Runs all result new ns (row_in (rows_of rows) n j r w)) (sym (length-map rows (λ b. b.now)) ∙ ap length e) h)

-- no name waits before a row
pub enters : (marks : Bool) (all : List Sign) (result : Result ℕ ReadError) (s t : Trail) (ns ms : List ℕ) (n r at : ℕ) → ns ≡ [] → Runs all result t ms (row_in (rows_of_terms marks) n row_count r (work_of s ns (drop at all))) → EntersAlone marks r n all at s result t
enters marks all result s t ns ms n r at e h = (ms, subst (λ l. Runs all result t ms (row_in (rows_of_terms marks) n row_count r (work_of s l (drop at all)))) e h)

pub enters_term : (n : ℕ) (all : List Sign) (at : ℕ) (old new : Trail) (result : Result ℕ ReadError) → Enters 37 n all at old result new → Makes postorder all old new result (read_in n term (drop at all))
enters_term n all at old new result h = enters_says {marks = false} postorder n 37 all at old new result (lit< tt) (says_term n (deep n)) h

-- phrases of scripts

pub enters_marked_term : (n : ℕ) (all : List Sign) (at : ℕ) (old new : Trail) (result : Result ℕ ReadError) → EntersAlone true 37 n all at old result new → Makes postorder all old new result (read_marked n (term_of true) (drop at all))
enters_marked_term n all at old new result h = enters_says {marks = true} postorder n 37 all at old new result (lit< tt) (says_term n (deep n)) h

pub enters_inner_term : (n : ℕ) (all : List Sign) (at : ℕ) (old new : Trail) (result : Result ℕ ReadError) → EntersAlone true 1 n all at old result new → Makes postorder all old new result (below_marked n Term (drop at all))
enters_inner_term n all at old new result h = enters_says {marks = true} postorder n 1 all at old new result (lit< tt) (says_inner n (deep n)) h

pub enters_terms : (n : ℕ) (all : List Sign) (at : ℕ) (old new : Trail) (result : Result ℕ ReadError) → EntersAlone true 2 n all at old result new → Makes postorder all old new result (read_marked n terms (drop at all))
enters_terms n all at old new result h = enters_says {marks = true} postorder n 2 all at old new result (lit< tt) (says_terms n (deep n)) h

pub enters_inner_subscript : (n : ℕ) (all : List Sign) (at : ℕ) (old new : Trail) (result : Result ℕ ReadError) → EntersAlone true 52 n all at old result new → Makes postorder all old new result (below_marked n Subscript (drop at all))
enters_inner_subscript n all at old new result h =
    let d : DeepBy true n = deep n in
    enters_says {marks = true} postorder n 52 all at old new result (lit< tt) (deeper_says 52 (ahead.Mark mark.OpenSquare) 6 d.subscript) h

pub enters_cell : (n : ℕ) (all : List Sign) (at : ℕ) (old new : Trail) (result : Result ℕ ReadError) → EntersAlone true 41 n all at old result new → Makes postorder all old new result (read_marked n cell (drop at all))
enters_cell n all at old new result h = enters_says {marks = true} postorder n 41 all at old new result (lit< tt) (says_cell n (deep n)) h

pub enters_inner_cell : (n : ℕ) (all : List Sign) (at : ℕ) (old new : Trail) (result : Result ℕ ReadError) → EntersAlone true 42 n all at old result new → Makes postorder all old new result (below_marked n OneCell (drop at all))
enters_inner_cell n all at old new result h = enters_says {marks = true} postorder n 42 all at old new result (lit< tt) (says_inner_cell n (deep n)) h

pub ruleset entries = (enters_term, enters_marked_term, enters_inner_term, enters_terms, enters_inner_subscript, enters_cell, enters_inner_cell)
