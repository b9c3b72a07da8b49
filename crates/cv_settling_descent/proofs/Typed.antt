-- What typing says of each node of a game: what is asked of it, and that only indices are bound above it.
use Rattle.std.proofs.Common.{◌≡◌, ℕ, ◌==◌, Bool, true, false, cond, Option, Some, None, refl, sym, ap, subst, ◌∙◌, eqb-true}
use Rattle.std.proofs.lemmas.Bool.{and_parts}
use Rattle.cv_syntax.specs.faults.Walk.{IsObeyed}
use Rattle.cv_syntax_trees.specs.declared.head.Head.{Head}
use Rattle.cv_syntax_trees.specs.declared.head.Head.TheVariants as head
use Rattle.cv_syntax_trees.specs.declared.head.Head.TheVariants.{And, Apply, Binder, Cons, Eq, Event, Find, If, In, Leaf, Let, Name, New, No, Not, Or, Out, Par, Read, Repl, Stop, Yes, Yield}
use Rattle.cv_syntax_trees.specs.declared.sites.sort.Sort.{Sort}
use Rattle.cv_syntax_trees.specs.declared.sites.sort.Sort.TheVariants.{BelowParameter}
use Rattle.cv_syntax_trees.specs.Tree.{Tree, Empty, Node}
use Rattle.cv_syntax_trees.specs.sites.Sites.{first_of}
use Rattle.cv_scope_rules.specs.Phrases.{Phrase, Arm, Binders, Body, Branches, Cells, Else, Guarded, Guards, Indices, Inputs, Message, OneCell, Pattern, Term, Terms, Then, both_are, is_phrase, parts}
use Rattle.cv_scope_rules.specs.declared.typing.form.Form.TheVariants.{InProcess}
use Rattle.cv_scope_rules.specs.declared.typing.precedence.Precedence.TheVariants.{First}
use Rattle.cv_scope_rules.specs.typing.Parts.{nothing_above}
use Rattle.cv_scope_rules.specs.typing.Signature.{Above, Signature}
use Rattle.cv_scope_rules.specs.typing.Typing.{IsTyped, fault_of}
use Rattle.cv_scope_rules.specs.typing.Wants as want
use Rattle.cv_scope_rules.specs.typing.Wants.{Run, Tested, Want, above_second, bound, wants}
use Rattle.cv_scene.specs.Terms.{Names, head_is_there, is_there}
use Rattle.cv_steps.proofs.Flat.{open_phrase}
use Rattle.cv_settling_measures.proofs.Nodes.{AllNodes}
use Rattle.cv_settling_measures.proofs.Rewriting.{AreIndices, index_bound}

-- what is asked of the constructs of a process
abbrev pub Fits : Phrase → Want → Type 0
Fits Inputs w = w ≡ Run InProcess
Fits Body w = w ≡ Run InProcess
Fits Then w = w ≡ Run InProcess
Fits Else w = w ≡ Run InProcess
Fits Branches w = w ≡ want.Branches InProcess
Fits Arm w = w ≡ want.Branches InProcess
Fits Guards w = w ≡ want.Guarded InProcess
Fits Guarded w = w ≡ Tested InProcess
Fits σ w = Unit {0}

-- what is bound above has no types, and none of these names
pub record IndicesAlone (names : ℕ → Bool) (above : Above) : Type 0 where
  pub indices : AreIndices above
  pub apart : (x : ℕ) (S : Sort) → above x ≡ Some S → names x ≡ false

-- a replication binds none of these names
abbrev pub BindsOther : (names : ℕ → Bool) → Head → Tree → Tree → Type 0
BindsOther names (Repl i n) a b = names i ≡ false
BindsOther names h a b = Unit {0}

index_alone : (names : ℕ → Bool) (above : Above) (i n : ℕ) → names i ≡ false → IndicesAlone names above → IndicesAlone names (bound First above i (BelowParameter n))
index_alone names above i n e k = record { indices = index_bound above i n k.indices; apart = λ x S f. go x S (i == x) refl f }
  where
    go : (x : ℕ) (S : Sort) (v : Bool) → (i == x) ≡ v → cond v (first_of (above i) (Some (BelowParameter n))) (above x) ≡ Some S → names x ≡ false
    go x S true f g = ap names (sym (eqb-true i x f)) ∙ e
    go x S false f g = k.apart x S g

-- and of its children, with what is bound above them
abbrev RowFits : Signature → (ℕ → Bool) → Phrase → Head → Option (Phrase × Phrase) → Type 0
RowFits e names σ h None = Unit {0}
RowFits e names σ h (Some q) =
    (above : Above) (w : Want) (a b : Tree) → Fits σ w → IndicesAlone names above → BindsOther names h a b
    → Fits q.0 (wants e above w h a).0 × Fits q.1 (wants e above w h a).1 × IndicesAlone names (above_second w h a above)

rows_fit : (e : Signature) (names : ℕ → Bool) (σ : Phrase) (h : Head) → RowFits e names σ h (parts σ h)
rows_fit e names Inputs Stop = λ above w a b f k o. (tt, tt, k)
rows_fit e names Inputs Par = λ above w a b f k o. (ap (λ v. (wants e above v Par a).0) f, ap (λ v. (wants e above v Par a).1) f, k)
rows_fit e names Inputs (Repl i n) = λ above w a b f k o. (tt, ap (λ v. (wants e above v (Repl i n) a).1) f, index_alone names above i n o k)
rows_fit e names Inputs (In c) = λ above w a b f k o. (tt, ap (λ v. (wants e above v (In c) a).1) f, k)
rows_fit e names Body Yield = λ above w a b f k o. (tt, tt, k)
rows_fit e names Body (Out c) = λ above w a b f k o. (tt, ap (λ v. (wants e above v (Out c) a).1) f, k)
rows_fit e names Body (New x T) = λ above w a b f k o. (tt, ap (λ v. (wants e above v (New x T) a).1) f, subst (λ v. IndicesAlone names (above_second v (New x T) a above)) (sym f) k)
rows_fit e names Body (Let x T) = λ above w a b f k o. (tt, ap (λ v. (wants e above v (Let x T) a).1) f, subst (λ v. IndicesAlone names (above_second v (Let x T) a above)) (sym f) k)
rows_fit e names Body (Event v) = λ above w a b f k o. (tt, ap (λ u. (wants e above u (Event v) a).1) f, k)
rows_fit e names Body If = λ above w a b f k o. (tt, ap (λ v. (wants e above v If a).1) f, k)
rows_fit e names Body (Find l) = λ above w a b f k o. (ap (λ v. (wants e above v (Find l) a).0) f, ap (λ v. (wants e above v (Find l) a).1) f, k)
rows_fit e names Then Cons = λ above w a b f k o. (ap (λ v. (wants e above v Cons a).0) f, ap (λ v. (wants e above v Cons a).1) f, k)
rows_fit e names Else Cons = λ above w a b f k o. (ap (λ v. (wants e above v Cons a).0) f, tt, k)
rows_fit e names Branches Cons = λ above w a b f k o. (ap (λ v. (wants e above v Cons a).0) f, ap (λ v. (wants e above v Cons a).1) f, k)
rows_fit e names Arm head.Branch = λ above w a b f k o. (tt, ap (λ v. (wants e above v head.Branch a).1) f, subst (λ v. IndicesAlone names (above_second v head.Branch a above)) (sym f) k)
rows_fit e names Guards Cons = λ above w a b f k o. (tt, ap (λ v. (wants e above v Cons a).1) f, k)
rows_fit e names Guarded Cons = λ above w a b f k o. (tt, ap (λ v. (wants e above v Cons a).1) f, k)
rows_fit e names Pattern Cons = λ above w a b f k o. (tt, tt, k)
rows_fit e names Message Cons = λ above w a b f k o. (tt, tt, k)
rows_fit e names Indices (Name i) = λ above w a b f k o. (tt, tt, k)
rows_fit e names Binders (Binder x T) = λ above w a b f k o. (tt, tt, k)
rows_fit e names Cells Cons = λ above w a b f k o. (tt, tt, k)
rows_fit e names OneCell (Leaf x) = λ above w a b f k o. (tt, tt, k)
rows_fit e names OneCell (Read x) = λ above w a b f k o. (tt, tt, k)
rows_fit e names Terms Cons = λ above w a b f k o. (tt, tt, k)
rows_fit e names Term (Leaf x) = λ above w a b f k o. (tt, tt, k)
rows_fit e names Term (Read x) = λ above w a b f k o. (tt, tt, k)
rows_fit e names Term (Apply f) = λ above w a b g k o. (tt, tt, k)
rows_fit e names Term Eq = λ above w a b f k o. (tt, tt, k)
rows_fit e names Term And = λ above w a b f k o. (tt, tt, k)
rows_fit e names Term Or = λ above w a b f k o. (tt, tt, k)
rows_fit e names Term Not = λ above w a b f k o. (tt, tt, k)
rows_fit e names Term Yes = λ above w a b f k o. (tt, tt, k)
rows_fit e names Term No = λ above w a b f k o. (tt, tt, k)
rows_fit e names σ h = tt

-- a node of a phrase with what typing and the grammar say of it
pub record TypedNode (e : Signature) (known : Names) (names : ℕ → Bool) (σ : Phrase) (above : Above) (w : Want) (h : Head) (a b : Tree) : Type 0 where
  pub fits : Fits σ w
  pub alone : IndicesAlone names above
  pub phrase : is_phrase σ (Node h a b) ≡ true
  pub there : is_there known σ (Node h a b) ≡ true
  pub faultless : fault_of e above w h a ≡ None
  pub first : IsTyped e above (wants e above w h a).0 a

module _ (e : Signature) (known : Names) (names : ℕ → Bool) (K : Head → Tree → Tree → Type 0) (give : (σ : Phrase) (above : Above) (w : Want) (h : Head) (a b : Tree) → TypedNode e known names σ above w h a b → K h a b) where
  typed_nodes : (σ : Phrase) (above : Above) (w : Want) (t : Tree) → Fits σ w → IndicesAlone names above → AllNodes (BindsOther names) t → is_phrase σ t ≡ true → is_there known σ t ≡ true → IsTyped e above w t → AllNodes K t
  unfolding AllNodes IsObeyed is_there
  typed_nodes σ above w Empty f k n p t i = tt
  typed_nodes σ above w (Node h a b) f k n p t i =
      let o = open_phrase σ h a b p in
      let u = (and_parts (head_is_there known σ h) _ t).1 in
      let r = and_parts (is_there known o.0.0 a) _ (ap (λ z. both_are z (λ τ. is_there known τ a) (λ ρ. is_there known ρ b)) (sym o.1) ∙ u) in
      let q : RowFits e names σ h (Some o.0) = subst (RowFits e names σ h) o.1 (rows_fit e names σ h) in
      let z = q above w a b f k n.0 in (
        give σ above w h a b (record { fits = f; alone = k; phrase = p; there = t; faultless = i.0; first = i.1 }),
        typed_nodes o.0.0 above (wants e above w h a).0 a z.0 k n.1 o.2 r.0 i.1,
        typed_nodes o.0.1 (above_second w h a above) (wants e above w h a).1 b z.1 z.2 n.2 o.3 r.1 i.2,
      )

  pub typed_game_nodes : (game : Tree) → AllNodes (BindsOther names) game → is_phrase Inputs game ≡ true → is_there known Inputs game ≡ true → IsTyped e nothing_above (Run InProcess) game → AllNodes K game
  typed_game_nodes game n p t i = typed_nodes Inputs nothing_above (Run InProcess) game refl (record { indices = λ x T f. absurd (cc); apart = λ x S f. absurd (cc) }) n p t i

-- where no name is asked for

binds_any : (h : Head) (a b : Tree) → BindsOther (λ x. false) h a b
binds_any (Repl i n) a b = refl
binds_any h a b = tt

pub all_bind_any : (t : Tree) → AllNodes (BindsOther (λ x. false)) t
unfolding AllNodes
all_bind_any Empty = tt
all_bind_any (Node h a b) = (binds_any h a b, all_bind_any a, all_bind_any b)
