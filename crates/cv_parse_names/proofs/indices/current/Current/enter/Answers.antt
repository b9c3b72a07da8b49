use Rattle.std.proofs.Common.{◌≡◌, ◌≤◌, ap, sym, ◌∙◌, subst, refl, List, ℕ, length, ◌++◌, ◌∷◌, [], take}
use Rattle.cv_parse_names.specs.indices.Current.{Numbers, AreKept}
use Rattle.cv_parse_names.specs.declared.indices.current.Current.TheInside.{Inside}
use Rattle.cv_parse_names.proofs.indices.Keeping.{is_among, still_kept, cut_noted, entered_new, entered_known}
use Rattle.cv_parse_names.proofs.indices.current.Current.enter.Goals as goal
use Rattle.cv_parse_names.proofs.indices.current.Current.enter.Goals.{then-not-known+in_ok-insert, else-not-known}

few_names : (inside now : List ℕ) (count : ℕ) → inside ≡ now → count ≤ length now → count ≤ length inside
few_names inside now count e h = subst (λ (l : List ℕ). count ≤ length l) (sym e) h

at_places : (s t : Inside) (names : List ℕ) → s ≡ t → AreKept names t.places → AreKept names s.places
at_places s t names e k = subst (λ (m : Numbers). AreKept names m) (ap (λ (i : Inside). i.places) (sym e)) k

names_of : (s t : Inside) → s ≡ t → s.names.items ≡ t.names.items
names_of s t e = ap (λ (i : Inside). i.names.items) e

pub invariant_of-self : goal.invariant_of-self
invariant_of-self c =
    let few = few_names c.self.inside.names.items c.args.self.now c.args.count c.self.view_is c.requires in
    still_kept c.self.inside.names.items c.truncate.new.self.items c.self.inside.places c.insert.new.self c.args.count c.self.invariant few c.truncate.ensures.items c.in_err-insert.ensures.err

pub invariant_of-self-in_err-push : goal.invariant_of-self-in_err-push
invariant_of-self-in_err-push c =
    let names = c.self.inside.names.items in
    let few = few_names names c.args.self.now c.args.count c.self.view_is c.requires in
    elim c.if-not-known.branch [
      | then-not-known+in_ok-insert w ↦
          at_places c.if-not-known.self-inside _ c.push.new.self.items w.self-inside-is
          (cut_noted names c.push.new.self.items c.self.inside.places w.insert.new.self c.args.name c.args.count c.self.invariant few
          (c.in_err-push.ensures.items ∙ (names_of c.if-not-known.self-inside _ w.self-inside-is ∙ c.truncate.ensures.items))
          (ap (λ l. is_among (take c.args.count l) c.args.name) c.self.view_is ∙ (sym c.holds-known.ensures ∙ w.if-not-known.true)) w.in_ok-insert.ensures.updates)
      | else-not-known w ↦
          at_places c.if-not-known.self-inside _ c.push.new.self.items w.self-inside-is
          (still_kept names c.push.new.self.items c.self.inside.places c.self.inside.places c.args.count c.self.invariant few
          (c.in_err-push.ensures.items ∙ (names_of c.if-not-known.self-inside _ w.self-inside-is ∙ c.truncate.ensures.items)) refl)
    ]

pub invariant_of-self-2 : goal.invariant_of-self-2
invariant_of-self-2 c =
    let names = c.self.inside.names.items in
    let few = few_names names c.args.self.now c.args.count c.self.view_is c.requires in
    elim c.if-not-known.branch [
      | then-not-known+in_ok-insert w ↦
          at_places c.if-not-known.self-inside _ c.push.new.self.items w.self-inside-is
          (entered_new names c.truncate.new.self.items c.push.new.self.items c.self.inside.places w.insert.new.self c.args.name c.args.count c.self.invariant few c.truncate.ensures.items
          (c.in_ok-push.ensures.items ∙ ap (λ l. l ++ c.args.name ∷ []) (names_of c.if-not-known.self-inside _ w.self-inside-is))
          (ap (λ l. is_among (take c.args.count l) c.args.name) c.self.view_is ∙ (sym c.holds-known.ensures ∙ w.if-not-known.true)) w.in_ok-insert.ensures.updates)
      | else-not-known w ↦
          at_places c.if-not-known.self-inside _ c.push.new.self.items w.self-inside-is
          (entered_known names c.truncate.new.self.items c.push.new.self.items c.self.inside.places c.args.name c.args.count c.self.invariant few c.truncate.ensures.items
          (c.in_ok-push.ensures.items ∙ ap (λ l. l ++ c.args.name ∷ []) (names_of c.if-not-known.self-inside _ w.self-inside-is))
          (ap (λ l. is_among (take c.args.count l) c.args.name) c.self.view_is ∙ (sym c.holds-known.ensures ∙ w.if-not-known.false)))
    ]
