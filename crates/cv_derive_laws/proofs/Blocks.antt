-- Each line outside blocks is true where all lines are right.
use Rattle.std.proofs.Common.{◌≡◌, ℕ, ◌+◌, Bool, true, false, cond, ◌==◌, not, List, [], ◌∷◌, ◌⊎◌, inl, inr, Option, Some, None, refl, ap, subst, ◌∙◌}
use Rattle.std.proofs.lemmas.Bool.{both_ways, and_parts}
use Rattle.std.specs.List.{AllByRecursion}
use Rattle.cv_syntax_trees.specs.declared.head.Head.TheVariants as head
use Rattle.cv_syntax_trees.specs.declared.head.Head.TheVariants.{Not}
use Rattle.cv_syntax_trees.specs.Tree.{Tree, Empty, Node, first, same_tree, second}
use Rattle.cv_syntax_trees.proofs.Equality.{same_tree_exact}
use Rattle.cv_meaning.specs.Interpretation.{Interpretation}
use Rattle.cv_meaning.specs.Memory.{Indices, Store}
use Rattle.cv_meaning.specs.Satisfies.{Satisfies}
use Rattle.cv_meaning.specs.Terms.{bit, is_one, value}
use Rattle.cv_meaning_laws.specs.adequacy.Typed.{HasSort}
use Rattle.cv_scope_rules.specs.Phrases.{IsWellFormed}
use Rattle.cv_syntax_trees.specs.sites.Sites.{first_of}
use Rattle.cv_syntax.proofs.faults.First.{none_first}
use Rattle.cv_scope_rules.specs.typing.Signature as typing
use Rattle.cv_scope_rules.specs.typing.Signature.{sort_of}
use Rattle.cv_typing_runs.specs.Games.{HasArguments, sort_of_meaning}
use Rattle.cv_scene.specs.Terms.{above_under, is_term_under, signature_in}
use Rattle.cv_scene.specs.Derivations.{first_bad, first_bad_line, is_right_split, nothing_visible, unless, with_line}
use Rattle.cv_scene.specs.lines.Ends.{ends_in, same_statement}
use Rattle.cv_scene.specs.lines.Inferences.{Visible, number_of, cited_term}
use Rattle.cv_scene.specs.lines.Truths.{no}
use Rattle.cv_scene.specs.lines.Lines.{Lines, End, By, Cases, Statement, Holds, IsDefined, count, lines_of, statements}
use Rattle.cv_scene.specs.Late.{is_alone}
use Rattle.cv_scene.specs.Reasons.{is_reason, is_right}
use Rattle.cv_scene.specs.Sights.{Sight, is_condition, is_typed}
use Rattle.cv_derive_laws.specs.stores.Truth.{HasClosedEquations, IsReached, IsTrue, WasReached}
use Rattle.cv_derive_laws.proofs.Data.{by_data}
use Rattle.cv_derive_laws.proofs.Reasons as reasons
use Rattle.cv_derive_laws.proofs.Truths.{IsBit}

unless_none : (b : Bool) (k : ℕ) → unless b k ≡ None → b ≡ true
unless_none true k e = refl
unless_none false k e = absurd (cc)

-- a statement that is this one
same_statement_law : (t u : Statement) → same_statement t u ≡ true → t ≡ u
same_statement_law (Holds t) (Holds u) e = ap Holds (same_tree_exact t u e)
same_statement_law (IsDefined t) (IsDefined u) e = ap IsDefined (same_tree_exact t u e)
same_statement_law (Holds t) (IsDefined u) e = absurd (both_ways false refl e)
same_statement_law (IsDefined t) (Holds u) e = absurd (both_ways false refl e)

module _ (s : Sight) (i : Interpretation) (at : Indices) (m n : Store) (r : WasReached s i at m n) (term_for : HasArguments s.scene.declarations) (well : IsWellFormed s.scene.declarations s.scene.game) (model : Satisfies s.scene.declarations i) (closed : HasClosedEquations s.scene.declarations) where
  abbrev Fine : Statement → Type 0
  Fine t = reasons.IsFine s i at m n r term_for well model closed t

  abbrev AllFine : Visible → Type 0
  AllFine v = reasons.AreFine s i at m n r term_for well model closed v

  abbrev Assumed : Tree → Type 0
  Assumed a = reasons.IsAssumed s i at m n r term_for well model closed a

  abbrev V : Tree → ℕ
  V t = reasons.V s i at m n r term_for well model closed t

  -- the place is reached now; or there is a second copy, beside which no line by `late` is right
  abbrev IsNow : Type 0
  IsNow = IsReached s i at m n ⊎ (is_alone s.pair ≡ false)

  term_holds : (a : Tree) (v : Visible) (t reason : Tree) → IsNow → Assumed a → AllFine v → is_term_under s.scene s.replications t ≡ true → is_reason s a v t reason ≡ true → V t ≡ 1
  term_holds a v t Empty w h f k e = absurd (both_ways false refl e)
  term_holds a v t (Node head.ByFact l b) w h f k e = reasons.by_fact s i at m n r term_for well model closed v f (number_of l) t e
  term_holds a v t (Node head.BySite l b) w h f k e = reasons.by_site s i at m n r term_for well model closed v f l (number_of b) t e
  term_holds a v t (Node head.ByEquation l ms) w h f k e = reasons.by_equation s i at m n r term_for well model closed v f (number_of l) ms t e
  term_holds a v t (Node head.ByRefl l b) w h f k e = reasons.by_refl s i at m n r term_for well model closed v f t e
  term_holds a v t (Node head.BySym l b) w h f k e = reasons.by_sym s i at m n r term_for well model closed v f l (cited_term v l) t refl e
  term_holds a v t (Node head.ByTrans l b) w h f k e = reasons.by_trans s i at m n r term_for well model closed v f l b (cited_term v l) (cited_term v b) t refl refl e
  term_holds a v t (Node head.ByCong ls b) w h f k e = reasons.by_cong s i at m n r term_for well model closed v f ls t e
  term_holds a v t (Node head.ByMp l b) w h f k e = reasons.by_mp s i at m n r term_for well model closed v f l b (cited_term v l) (cited_term v b) t refl refl e
  term_holds a v t (Node head.ByAnd l b) w h f k e =
      let x = reasons.sorted_term s i at m n r term_for well model closed t k in
      reasons.by_and s i at m n r term_for well model closed v f l b (cited_term v l) (cited_term v b) t (sort_of_meaning x.0) x.2 refl refl e
  term_holds a v t (Node head.ByLeft l b) w h f k e = reasons.by_left s i at m n r term_for well model closed v f l (cited_term v l) t refl e
  term_holds a v t (Node head.ByRight l b) w h f k e = reasons.by_right s i at m n r term_for well model closed v f l (cited_term v l) t refl e
  term_holds a v t (Node head.ByContra l b) w h f k e = reasons.by_contra s i at m n r term_for well model closed v f l b (cited_term v l) (cited_term v b) t refl refl e
  term_holds a v t (Node head.ByLate l ls) (inl now) h f k e = absurd (reasons.by_late s i at m n r term_for well model closed v f now l ls (and_parts (same_tree t no) _ e).1)
  term_holds a v t (Node head.ByLate l ls) (inr w) h f k e =
      absurd (both_ways (is_alone s.pair) w (and_parts (is_alone s.pair) _ (and_parts (same_tree t no) _ e).1).0)
  term_holds a v t (Node head.ByExfalso l b) w h f k e = absurd (reasons.said_no s i at m n r term_for well model closed v f l e)
  term_holds a v t (Node head.ByData l b) w h f k e = by_data s i at m n r term_for well model closed t k e
  term_holds a v t (Node head.ByGiven l b) w h f k e = reasons.by_given s i at m n r term_for well model closed v f a t h k e
  term_holds a v t (Node head.ByAgain l b) w h f k e = reasons.by_again s i at m n r term_for well model closed v f l t k e
  term_holds a v t (Node head.ByBool l b) w h f k e = reasons.by_truth s i at m n r term_for well model closed v f t k e
  term_holds a v t (Node head.ByOtherFact l b) w h f k e = reasons.by_other_fact s i at m n r term_for well model closed v f (number_of l) t s.pair r.beside e
  term_holds a v t (Node head.BySame l b) w h f k e = reasons.by_same s i at m n r term_for well model closed v f (number_of l) t s.pair r.beside e
  term_holds a v t (Node head.ByDistinct l ds) w h f k e =
      reasons.by_distinct s i at m n r term_for well model closed v f l (first ds) (first (second ds)) (number_of (second (second ds))) t s.pair r.beside e
  term_holds a v t (Node q l b) w h f k e = absurd (both_ways false refl e)

  statement_holds : (a : Tree) (v : Visible) (t : Statement) (reason : Tree) → IsNow → Assumed a → AllFine v → is_right s a v t reason ≡ true → Fine t
  statement_holds a v (Holds t) reason w h f e = let p = and_parts (is_typed s (Holds t)) _ e in record { holds = term_holds a v t reason w h f p.0 p.1; typed = p.0 }
  statement_holds a v (IsDefined d) reason w h f e = let p = and_parts (is_typed s (IsDefined d)) _ e in record { holds = reasons.cell_holds s i at m n r term_for well model closed v f d reason p.0 p.1; typed = p.0 }

  -- with one line more
  more_fine : (v : Visible) (k : ℕ) (t : Statement) → AllFine v → Fine t → AllFine (with_line v k t)
  more_fine v k t f h j u e = go (v j) refl (k == j) e
    where
      go : (o : Option Statement) → v j ≡ o → (b : Bool) → first_of o (cond b (Some t) None) ≡ Some u → Fine u
      go (Some w) x b e = let q : w ≡ u = cc in f j u (x ∙ ap Some q)
      go None x true e = let q : t ≡ u = cc in subst Fine q h
      go None x false e = absurd (cc)

  ends_fine : (us : List Statement) (t : Statement) → AllByRecursion Fine us → ends_in us t ≡ true → Fine t
  ends_fine [] t h e = absurd (both_ways false refl e)
  ends_fine (u ∷ []) t h e = subst Fine (same_statement_law u t e) h.0
  ends_fine (u ∷ (w ∷ us)) t h e = ends_fine (w ∷ us) t h.1 e

  condition_bit : (c : Tree) → is_condition s c ≡ true → IsBit (V c)
  condition_bit c e =
      let p = and_parts (is_term_under s.scene s.replications c) _ e in
      let x = reasons.sorted_term s i at m n r term_for well model closed c p.0 in
      reasons.bits s i at m n r term_for well model closed c
      (subst (λ S. HasSort (reasons.c s i at m n r term_for well model closed) (reasons.rs s i at m n r term_for well model closed) c (sort_of_meaning S)) (reasons.is_of s i at m n r term_for well model closed nothing_visible (λ k t z. absurd (cc)) (sort_of (signature_in s.scene) (above_under s.replications) c) x.0 typing.boolean x.1 p.1) x.2)

  not_true : (c : Tree) → V c ≡ 0 → V (Node Not c Empty) ≡ 1
  unfolding value
  not_true c e = ap (λ x. bit (not (is_one x))) e

  split_holds : (c : Tree) (d e : Lines) (t : Tree) → is_right_split s c d e t ≡ true → (Assumed c → AllByRecursion Fine (statements d)) → (Assumed (Node Not c Empty) → AllByRecursion Fine (statements e)) → Fine (Holds t)
  split_holds c d e t f h k =
      let p = and_parts (is_condition s c) _ f in
      let q = and_parts (ends_in (statements d) (Holds t)) _ p.1 in
      go (condition_bit c p.0) q.0 q.1
    where
      go : IsBit (V c) → ends_in (statements d) (Holds t) ≡ true → ends_in (statements e) (Holds t) ≡ true → Fine (Holds t)
      go (inl x) y z = ends_fine (statements e) (Holds t) (k (λ w. not_true c x)) z
      go (inr x) y z = ends_fine (statements d) (Holds t) (h (λ w. x)) y

  lines_hold : (a : Tree) (v : Visible) (k : ℕ) (ls : Lines) → IsNow → Assumed a → AllFine v → first_bad s a v k ls ≡ None → AllByRecursion Fine (statements ls)
  unfolding first_bad statements
  lines_hold a v k End l h f e = tt
  lines_hold a v k (By t reason rest) l h f e =
      let p = none_first (unless (is_right s a v t reason) k) _ e in
      let x : Fine t = statement_holds a v t reason l h f (unless_none (is_right s a v t reason) k p.0) in
      (x, lines_hold a (with_line v k t) (k + 1) rest l h (more_fine v k t f x) p.1)
  lines_hold a v k (Cases c d e t rest) l h f z =
      let middle : ℕ = k + count d in
      let end : ℕ = middle + count e in
      let p = none_first (first_bad s c v k d) _ z in
      let q = none_first (first_bad s (Node Not c Empty) v middle e) _ p.1 in
      let w = none_first (unless (is_right_split s c d e t) end) _ q.1 in
      let x : Fine (Holds t) = split_holds c d e t (unless_none (is_right_split s c d e t) end w.0) (λ y. lines_hold c v k d l y f p.0) (λ y. lines_hold (Node Not c Empty) v middle e l y f q.0) in
      (x, lines_hold a (with_line v end (Holds t)) (end + 1) rest l h (more_fine v end (Holds t) f x) w.1)

  all_true : (ts : List Statement) → AllByRecursion Fine ts → AllByRecursion (IsTrue (reasons.g s i at m n r term_for well model closed) at m n) ts
  all_true [] h = tt
  all_true (t ∷ ts) h = (h.0.holds, all_true ts h.1)

  pub derivation_holds : (by : Tree) → IsNow → first_bad_line s by ≡ None → AllByRecursion (IsTrue (reasons.g s i at m n r term_for well model closed) at m n) (statements (lines_of by))
  derivation_holds by l e = all_true (statements (lines_of by)) (lines_hold Empty nothing_visible 1 (lines_of by) l (λ k. absurd (k refl)) (λ k t z. absurd (cc)) e)
