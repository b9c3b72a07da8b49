-- A derivation ends with one target where its last line says it.
use Rattle.std.proofs.Common.{◌≡◌, ℕ, suc, ◌-◌, Bool, true, false, not, ◌&&◌, nat_lt, List, [], ◌∷◌, length, drop, Option, Some, None, refl, sym, ap, ◌∙◌, arith}
use Rattle.std.proofs.lemmas.Bool.Decides.{nat_tests}
use Rattle.cv_syntax_trees.specs.Tree.{Tree, same_tree}
use Rattle.cv_scene.specs.lines.Ends.{ends_with, is_end, same_statement, same_statements}
use Rattle.cv_scene.specs.lines.Lines.{Statement, Holds, IsDefined, lines_of, statements}
use Rattle.cv_scene.specs.lines.Targets.{target}
use Rattle.cv_derive_lines.specs.Lasts.{last_behind, last_of}
use Rattle.cv_syntax_trees.proofs.lists.Tests.{and_true}

abbrev says : Option Statement → Statement → Bool
says None u = false
says (Some t) u = same_statement t u

not_none : (n : ℕ) → not (nat_lt (suc n) 1) ≡ true
not_none n = let e : nat_lt (suc n) 1 ≡ false = grind (arith, nat_tests) in ap not e

all_but_one : (t : Statement) (ts : List Statement) → drop (length (t ∷ ts) - 1) (t ∷ ts) ≡ drop (length ts) (t ∷ ts)
all_but_one t ts = let e : length (t ∷ ts) - 1 ≡ length ts = omega arith in ap (λ n. drop n (t ∷ ts)) e

-- the last item of a list, dropped so far
last_left : (t : Statement) (ts : List Statement) (u : Statement) → same_statements (drop (length ts) (t ∷ ts)) (u ∷ []) ≡ says (last_behind (Some t) ts) u
last_left t [] u = and_true (same_statement t u)
last_left t (s ∷ ts) u = last_left s ts u

last_end : (ts : List Statement) (u : Statement) → is_end ts (u ∷ []) ≡ says (last_of ts) u
last_end [] u = refl
last_end (t ∷ ts) u =
    ap (λ b. b && same_statements (drop (length (t ∷ ts) - 1) (t ∷ ts)) (u ∷ [])) (not_none (length ts))
    ∙ (ap (λ l. same_statements l (u ∷ [])) (all_but_one t ts) ∙ last_left t ts u)

one_target : (t : Tree) → statements (lines_of (target t)) ≡ Holds t ∷ []
unfolding lines_of statements
one_target t = refl

pub target_end : (by t : Tree) → ends_with by (target t) ≡ says (last_of (statements (lines_of by))) (Holds t)
target_end by t = ap (is_end (statements (lines_of by))) (one_target t) ∙ last_end (statements (lines_of by)) (Holds t)

module _ (by t : Tree) (o : Option Statement) (e : o ≡ last_of (statements (lines_of by))) where
  pub ends_so : (u : Tree) (b : Bool) → o ≡ Some (Holds u) → b ≡ same_tree u t → b ≡ ends_with by (target t)
  ends_so u b f g = g ∙ sym (target_end by t ∙ ap (λ p. says p (Holds t)) (sym e ∙ f))

  pub ends_with_cell : (c : Tree) → o ≡ Some (IsDefined c) → false ≡ ends_with by (target t)
  ends_with_cell c f = sym (target_end by t ∙ ap (λ p. says p (Holds t)) (sym e ∙ f))

  pub ends_nowhere : o ≡ None → false ≡ ends_with by (target t)
  ends_nowhere f = sym (target_end by t ∙ ap (λ p. says p (Holds t)) (sym e ∙ f))
