-- An accepted rewriting keeps chances.
use Rattle.std.proofs.Common.{◌≡◌, ℕ, ◌==◌, Bool, true, false, List, [], ◌∷◌, refl, subst, eqb-true}
use Rattle.std.proofs.lemmas.Bool.{and_parts}
use Rattle.std.proofs.lemmas.List.Elements.{All-nil, All-cons, All-head, All-tail}
use Rattle.std.specs.List.{All, AllByRecursion}
use Rattle.cv_syntax_trees.specs.declared.head.Head.TheVariants.{Eq}
use Rattle.cv_syntax_trees.specs.Tree.{Tree, Node}
use Rattle.cv_meaning.specs.Interpretation.{Interpretation, Setting, setting_of}
use Rattle.cv_meaning.specs.Advantage.{chance_of}
use Rattle.cv_meaning.specs.Chances.{Same}
use Rattle.cv_meaning.specs.Experiments.{mode_of, visits_of_run}
use Rattle.cv_meaning.specs.Memory.{Indices, Store}
use Rattle.cv_meaning.specs.Terms.{bit, value}
use Rattle.cv_meaning.specs.Replaced.{replaced}
use Rattle.cv_meaning_chances.proofs.rewording.SameCells.{reworded_chances}
use Rattle.cv_scope_rules.specs.Phrases.{Inputs, Term, is_phrase}
use Rattle.cv_scene.specs.Scenes.{Scene, part_at}
use Rattle.cv_scene.specs.Sights.{sight_at}
use Rattle.cv_scene.specs.Derivations.{Derives}
use Rattle.cv_scene.specs.Terms.{is_term_at}
use Rattle.cv_scene.specs.lines.Lines.{lines_of, statements}
use Rattle.cv_scene.specs.lines.Targets.{equality}
use Rattle.cv_derive_laws.specs.stores.Holding.{HoldAt, HoldAtConditions, HoldAtVisit, IsReady}
use Rattle.cv_derive_laws.specs.stores.Soundness.{DerivationsHold}
use Rattle.cv_steps.specs.Steps.{Cost, Leads}
use Rattle.cv_steps.specs.Changes.{change_at}
use Rattle.cv_steps.specs.Chances.{KeepsChances}
use Rattle.cv_steps.specs.Rewriting.{has_term_at}
use Rattle.cv_steps.specs.Rows.{rewrite_row}
use Rattle.cv_steps.proofs.Flat.{term_still}
use Rattle.cv_steps.proofs.Rewritten.{rewrite_leads}
use Rattle.cv_steps_derivations.proofs.rewriting.Reworded.{Holds, game_reworded}
use Rattle.cv_syntax_trees.proofs.lists.Each.{AllByRecursion_both}

both_all : {A : Type 0} (P Q R : A → Type 0) → ((x : A) → P x → Q x → R x) → (xs : List A) → All P xs → All Q xs → All R xs
both_all P Q R f [] p q = All-nil R
both_all P Q R f (x ∷ xs) p q = All-cons R x xs (f x (All-head P x xs p) (All-head Q x xs q)) (both_all P Q R f xs (All-tail P x xs p) (All-tail Q x xs q))

-- an equation is 1 where both sides have one value
pub sides_equal : (g : Setting) (at : Indices) (n : Store) (a b : Tree) → value g at n (Node Eq a b) ≡ 1 → value g at n a ≡ value g at n b
unfolding value
sides_equal g at n a b e = go (value g at n a == value g at n b) refl e
  where
    go : (v : Bool) → (value g at n a == value g at n b) ≡ v → bit v ≡ 1 → value g at n a ≡ value g at n b
    go true f e = eqb-true (value g at n a) (value g at n b) f
    go false f e = absurd (cc)

module _ (s : Scene) (place : ℕ) (m by : Tree) (sound : DerivationsHold s.declarations) where
  -- the derivation shows the old term to be equal to the new one
  equal_there : Derives (sight_at s place) by (equality (part_at s.game place) m) → (i : Interpretation) (at : Indices) (x n : Store) → HoldAt s i place at x n
      → value (setting_of s.declarations i) at n (part_at s.game place) ≡ value (setting_of s.declarations i) at n m
  unfolding lines_of statements
  equal_there d i at x n h = sides_equal (setting_of s.declarations i) at n (part_at s.game place) m (sound.targets s i place at x n by (equality (part_at s.game place) m) h d).0

  keeps : IsReady s.declarations s.game → Derives (sight_at s place) by (equality (part_at s.game place) m) → is_phrase Term m ≡ true → has_term_at Inputs s.game place ≡ true
      → KeepsChances s.declarations s.game (change_at s.game place (λ old. m))
  keeps ready d w h i sat x asked a =
      let g : Setting = setting_of s.declarations i in
      let still = term_still m w in
      let equal = equal_there d i in
      subst (λ c. Same (chance_of g x a s.game) c)
      (reworded_chances g (λ t. Holds s i m (part_at s.game place) still place equal) x a s.game (replaced s.game place m)
      (λ t. game_reworded s i m (part_at s.game place) still place equal s.game refl ready.formed.phrase h)
      (both_all (λ t. AllByRecursion (HoldAtVisit s i) (visits_of_run g (mode_of x) a s.game t)) (λ t. AllByRecursion (HoldAtConditions s i) (visits_of_run g (mode_of x) a s.game t))
      (λ t. AllByRecursion (λ v. HoldAtVisit s i v × HoldAtConditions s i v) (visits_of_run g (mode_of x) a s.game t))
      (λ t p q. AllByRecursion_both (HoldAtVisit s i) (HoldAtConditions s i) (λ v. HoldAtVisit s i v × HoldAtConditions s i v) (λ v y z. (y, z)) _ p q) _
      (sound.places s refl ready i sat (mode_of x) a) (sound.conditions s refl ready i sat (mode_of x) a))) refl

pub rewrites : (s : Scene) (place : ℕ) (m by next : Tree) (cost : Cost) → IsReady s.declarations s.game → DerivationsHold s.declarations → is_term_at s place m ≡ true → rewrite_row s place m by ≡ Leads next cost
    → KeepsChances s.declarations s.game next
rewrites s p m by next cost ready sound t e =
    let r = rewrite_leads s p m by next cost e in
    subst (KeepsChances s.declarations s.game) r.leads (keeps s p m by sound ready r.derives (and_parts (is_phrase Term m) _ t).0 r.stands)
