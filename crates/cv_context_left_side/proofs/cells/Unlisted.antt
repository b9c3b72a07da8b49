-- An experiment in a context ignores each cell that its list lacks, but for keys.
use Rattle.std.proofs.Common.{◌≡◌, ℕ, Bool, true, false, ◌&&◌, not, List, [], ◌∷◌, refl, sym, ap, ap₂, ◌∙◌}
use Rattle.std.proofs.lemmas.Bool.{both_ways}
use Rattle.std.specs.List.{AllByRecursion}
use Rattle.cv_syntax_trees.specs.declared.head.Head.{Head}
use Rattle.cv_syntax_trees.specs.declared.head.Head.TheVariants.{Call, In, Key, Repl}
use Rattle.cv_syntax_trees.specs.Tree.{Tree, Empty, Node}
use Rattle.cv_meaning.specs.Cells.{cells}
use Rattle.cv_meaning.specs.Consulted.{IsListed, is_key}
use Rattle.cv_meaning.specs.Experiments.{Experiment, holds_in, holds_on, mode_of}
use Rattle.cv_meaning.specs.Interpretation.{Interpretation, Setting}
use Rattle.cv_meaning.specs.Runs.{Adversary, Events, Mode, Random, Real}
use Rattle.cv_meaning.specs.Tapes.{Cell, Tape, is_in, same_cell, written}
use Rattle.cv_meaning_laws.proofs.Counts.{same_cell_exact}
use Rattle.cv_meaning_chances.specs.Tests.{Ignores}
use Rattle.cv_meaning_chances.proofs.Within.{written_apart}
use Rattle.cv_meaning_runs.specs.Agreement.{AgreeAt, IsLocal}
use Rattle.cv_meaning_runs.specs.Listed.{IsTestable, head_is_testable, is_testable}
use Rattle.cv_meaning_runs.specs.Moments.{cells_of_run}
use Rattle.cv_meaning_runs.proofs.Listed.{cells_listed}
use Rattle.cv_meaning_runs.proofs.Together.{consulted_same}
use Rattle.cv_meaning_chances.proofs.contexts.Locality.{local}
use Rattle.cv_scene.specs.Reductions.{Reduction, in_context, is_plain, oracles}
use Rattle.cv_scene.specs.Apt.{IsTestApt}
use Rattle.cv_context_runs.proofs.service.Kept.{answer_not_plain, apart_by, key_not_plain}
use Rattle.cv_context_left_side.proofs.cells.Flat.{flat_terms, flat_testable, is_flat}
use Rattle.cv_context_left_side.proofs.cells.Turned.{IsTurned, is_kept}
use Rattle.cv_context_left_side.proofs.cells.Turned as turned

-- a plain variable can be tested in the context

kept_testable : (r : Reduction) (x : ℕ) (k : Head) (a : Tree) → is_kept r k ≡ true → head_is_testable x k a ≡ true
kept_testable r x (Key y) a e = absurd (both_ways false refl e)
kept_testable r x (Call y l) a e = absurd (both_ways false refl e)
kept_testable r x (In c) a e = absurd (both_ways false refl e)
kept_testable r x k a e = refl

input_testable : (x c : ℕ) (a : Tree) → is_flat a ≡ true → head_is_testable x (In c) a ≡ true
input_testable x c Empty e = refl
input_testable x c (Node (Repl i n) a b) e = absurd (both_ways false refl e)
input_testable x c (Node h a b) e = refl

testable_in : (r : Reduction) (x : ℕ) → is_plain r x ≡ true → (t c : Tree) → IsTurned r t c → is_testable x c ≡ true
testable_in r x p t c (turned.flat e) = flat_testable x c e
testable_in r x p t c (turned.terms e f) = flat_testable x c (flat_terms c f)
testable_in r x p t c (turned.kept {h = k} {a = a} {b = b} {c = y} {d = d} e f l) = ap₂ ◌&&◌ (kept_testable r x k y e) (ap₂ ◌&&◌ (testable_in r x p a y f) (testable_in r x p b d l))
testable_in r x p t c (turned.input {x = y} {a = a} {b = b} {d = d} e l) = ap₂ ◌&&◌ (input_testable x y a e) (ap₂ ◌&&◌ (flat_testable x a e) (testable_in r x p b d l))
testable_in r x p t c (turned.chosen {b = b} {d = d} e l) = ap₂ ◌&&◌ (ap not (apart_by (is_plain r) x r.key p (key_not_plain r))) (testable_in r x p b d l)
testable_in r x p t c (turned.gone {b = b} e f l) = testable_in r x p b c l
testable_in r x p t c (turned.called {x = y} {k = k} {q = q} {t = a} {c = d} e l) =
    ap₂ ◌&&◌ (ap not (apart_by (is_plain r) x y p (answer_not_plain r y e.answer))) (ap₂ ◌&&◌ (flat_testable x q (flat_terms q e.alone)) (testable_in r x p a d l))

pub context_testable : (r : Reduction) (m : Mode) → IsTestApt r m → (t c : Tree) → IsTurned r t c → IsTestable m c
context_testable r Events e t c k = tt
context_testable r (Real one x) e t c k = tt
context_testable r (Random one x) e t c k = testable_in r x e t c k

-- what is written into a cell that isn't listed

unwritten : (cs : List (Cell × ℕ)) (t : Tape) (d : Cell) (v : ℕ) → is_key d ≡ false → is_in cs d ≡ false → (c : Cell) → IsListed cs c → t c ≡ written t d v c
unwritten cs t d v k e c l = go (same_cell c d) refl
  where
    go : (b : Bool) → same_cell c d ≡ b → t c ≡ written t d v c
    go false f = sym (written_apart t d v c f)
    go true f =
        let same : c ≡ d = same_cell_exact c d f in
        absurd (both_ways (is_in cs d) e (sym (ap (is_in cs) same) ∙ l (ap is_key same ∙ k)))

all_unwritten : (cs : List (Cell × ℕ)) (t : Tape) (d : Cell) (v : ℕ) → is_key d ≡ false → is_in cs d ≡ false → (ds : List Cell) → AllByRecursion (IsListed cs) ds → AgreeAt ds t (written t d v)
all_unwritten cs t d v k e [] l = tt
all_unwritten cs t d v k e (c ∷ ds) l = (unwritten cs t d v k e c l.0, all_unwritten cs t d v k e ds l.1)

pub unlisted_ignored : (g : Setting) (x : Experiment) (a : Adversary) (c : Tree) → IsLocal g.side → IsTestable (mode_of x) c → (d : Cell) → is_key d ≡ false → is_in (cells g (mode_of x) a c) d ≡ false → Ignores (holds_on g x a c) d
unfolding holds_on
unlisted_ignored g x a c near tested d k e t v =
    ap (holds_in g x)
    (sym (consulted_same g (mode_of x) a c t (written t d v) near
    (all_unwritten (cells g (mode_of x) a c) t d v k e (cells_of_run g (mode_of x) a c t) (cells_listed g (mode_of x) a c t tested))).state)

pub context_ignores : (r : Reduction) (i : Interpretation) (x : Experiment) (a : Adversary) (c : Tree) → IsTestApt r (mode_of x) → IsTurned r r.scene.game c → (d : Cell) → is_key d ≡ false
    → is_in (cells (in_context r i) (mode_of x) a c) d ≡ false → Ignores (holds_on (in_context r i) x a c) d
context_ignores r i x a c e k = unlisted_ignored (in_context r i) x a c (local (oracles r i)) (context_testable r (mode_of x) e r.scene.game c k)
