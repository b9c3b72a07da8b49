-- What a derivation ends with is true, so `false` is derived where nothing comes.
use Rattle.std.proofs.Common.{◌≡◌, ℕ, zero, suc, ◌+◌, ◌-◌, Bool, true, false, not, nat_lt, List, [], ◌∷◌, drop, length, refl, subst}
use Rattle.std.proofs.lemmas.Bool.{both_ways, and_parts}
use Rattle.std.specs.List.{AllByRecursion}
use Rattle.cv_syntax_trees.specs.declared.head.Head.TheVariants.{Branch, Cons, Find}
use Rattle.cv_syntax_trees.specs.Tree.{Tree, Empty, Node, first, first_place, second, second_place, size}
use Rattle.cv_syntax_trees.proofs.Equality.{same_tree_exact}
use Rattle.cv_meaning.specs.Interpretation.{Interpretation, setting_of}
use Rattle.cv_meaning.specs.Binders.{bound_to, fits}
use Rattle.cv_meaning.specs.Candidates.{is_candidate}
use Rattle.cv_meaning.specs.Memory.{Indices, Memory, Store, tuple}
use Rattle.cv_meaning.specs.Serving.{Visit}
use Rattle.cv_meaning.specs.Terms.{value}
use Rattle.cv_scene.specs.Scenes.{Scene}
use Rattle.cv_scene.specs.Derivations.{Derives}
use Rattle.cv_scene.specs.lines.Ends.{is_end, same_statement, same_statements}
use Rattle.cv_scene.specs.lines.Lines.{Statement, Holds, IsDefined, lines_of, statements}
use Rattle.cv_scene.specs.Sights.{sight_at}
use Rattle.cv_derive_laws.specs.stores.Truth.{IsTrue}
use Rattle.cv_derive_laws.specs.stores.Holding.{HoldAt, HoldAtCandidates, HoldAtFind, HoldAtVisit, HoldInBodies}
use Rattle.cv_derive_laws.specs.stores.Unreached.{DerivesFalse, FindHasNone, HasNoCandidate, HasNoneAt, IsElsewhere}
use Rattle.cv_scene.specs.lines.Targets.{falsity}

module _ (P : Statement → Type 0) where
  dropped : (k : ℕ) (ts : List Statement) → AllByRecursion P ts → AllByRecursion P (drop k ts)
  dropped zero ts h = h
  dropped (suc k) [] h = tt
  dropped (suc k) (t ∷ ts) h = dropped k ts h.1

  same_one : (t u : Statement) → same_statement t u ≡ true → P t → P u
  same_one (Holds t) (Holds u) e h = subst (λ x. P (Holds x)) (same_tree_exact t u e) h
  same_one (IsDefined t) (IsDefined u) e h = subst (λ x. P (IsDefined x)) (same_tree_exact t u e) h
  same_one (Holds t) (IsDefined u) e h = absurd (both_ways false refl e)
  same_one (IsDefined t) (Holds u) e h = absurd (both_ways false refl e)

  same_all : (ts us : List Statement) → same_statements ts us ≡ true → AllByRecursion P ts → AllByRecursion P us
  same_all [] [] e h = tt
  same_all (t ∷ ts) (u ∷ us) e h = let p = and_parts (same_statement t u) _ e in (same_one t u p.0 h.0, same_all ts us p.1 h.1)
  same_all [] (u ∷ us) e h = absurd (both_ways false refl e)
  same_all (t ∷ ts) [] e h = absurd (both_ways false refl e)

  pub ends_hold : (ts us : List Statement) → is_end ts us ≡ true → AllByRecursion P ts → AllByRecursion P us
  ends_hold ts us e h =
      let p = and_parts (not (nat_lt (length ts) (length us))) _ e in
      same_all (drop (length ts - length us) ts) us p.1 (dropped (length ts - length us) ts h)

pub targets_hold_law : (s : Scene) (i : Interpretation) (p : ℕ) (at : Indices) (m n : Store) (by targets : Tree) → HoldAt s i p at m n → Derives (sight_at s p) by targets → AllByRecursion (IsTrue (setting_of s.declarations i) at m n) (statements (lines_of targets))
targets_hold_law s i p at m n by targets h d = ends_hold (IsTrue (setting_of s.declarations i) at m n) (statements (lines_of by)) (statements (lines_of targets)) d.end (h by d.right)

-- nothing comes where `false` is derived
pub nothing_comes : (s : Scene) (i : Interpretation) (p : ℕ) (at : Indices) (m n : Store) (by : Tree) → HoldAt s i p at m n → DerivesFalse s p by → ⊥
unfolding lines_of statements value
nothing_comes s i p at m n by h d = clash (targets_hold_law s i p at m n by falsity h d).0
  where
    clash : ◌≡◌ {A = ℕ} 0 1 → ⊥
    clash e = cc

module _ (s : Scene) (i : Interpretation) (q : ℕ) (by : Tree) (d : DerivesFalse s q by) where
  pub elsewhere : (v : Visit) → HoldAtVisit s i v → IsElsewhere q v
  elsewhere v h is e = nothing_comes s i q v.before.indices v.before.memory.store v.before.memory.store by (subst (λ p. HoldAt s i p v.before.indices v.before.memory.store v.before.memory.store) e (h is).0) d

  none_in : (p : ℕ) (at : Indices) (x : Memory) (t : Tree) → HoldInBodies s i p at x t → HasNoCandidate s i q p at x t
  none_in p at x Empty h = tt
  none_in p at x (Node Cons (Node Branch us rest) more) h = (λ e u f. go e u f (is_candidate (setting_of s.declarations i) at x.store (bound_to x.store (tuple at) us u) rest) refl, none_in (second_place p Cons (Node Branch us rest)) at x more h.1)
    where
      go : second_place (first_place p Cons) Branch us + size (first rest) + size (first (second rest)) ≡ q → (u : List ℕ) → fits i.parameter_value us u ≡ true → (b : Bool) → is_candidate (setting_of s.declarations i) at x.store (bound_to x.store (tuple at) us u) rest ≡ b → b ≡ false
      go e u f false k = refl
      go e u f true k = absurd (nothing_comes s i q at (bound_to x.store (tuple at) us u) (bound_to x.store (tuple at) us u) by (subst (λ p. HoldAt s i p at (bound_to x.store (tuple at) us u) (bound_to x.store (tuple at) us u)) e (h.0 u f k)) d)
  none_in p at x t h = tt

  pub none_at : (v : Visit) → HoldAtFind s i v → HasNoneAt s i q v
  none_at v h = go v.tree h
    where
      go : (t : Tree) → HoldAtCandidates s i v.place t v.before → FindHasNone s i q v.place t v.before
      go (Node (Find l) a b) h = none_in (first_place v.place (Find l)) v.before.indices v.before.memory a h
      go t h = tt
