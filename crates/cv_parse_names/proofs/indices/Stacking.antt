-- A stack of contexts, and the current indices that each has.
use Rattle.std.proofs.Common.{◌≡◌, ℕ, suc, ◌≤◌, List, [], ◌∷◌, ◌++◌, length, map, take, reverse, Option, Some, None, refl, ap, ap₂, sym, ◌∙◌, subst, arith, append-nil, length-append}
use Rattle.std.specs.Prelude.{unwrap_or}
use Rattle.std.specs.Option.{option_to_list}
use Rattle.std.proofs.lemmas.List.{reverse-append, take-take, take-append-le, take_all, length-take-le, nil_from_length}
use Rattle.cv_syntax_trees.specs.declared.head.Head.{Head}
use Rattle.cv_syntax_trees.specs.declared.head.Head.TheVariants.{Repl}
use Rattle.cv_syntax.specs.declared.make.Make.{Make}
use Rattle.cv_syntax.specs.declared.make.Make.TheVariants.{Nothing, Over}
use Rattle.cv_parse_grammar.specs.Filled.{now_below}
use Rattle.cv_parse_names.specs.declared.indices.context.Context.{Context}
use Rattle.cv_parse_names.specs.declared.indices.context.Place.TheVariants.{Plain}
use Rattle.cv_parse_names.specs.indices.Contexts.{first_place, second_place}
use Rattle.cv_parse_names.specs.indices.Current.{entered, entered_below, level_below}
use Rattle.cv_parse_names.specs.indices.Stacks.{standing, standings, Descends, first_context, second_context, top, rest, children, Popped}

abbrev pub outside : Context
outside = record { level = 0; place = Plain }

pub popped_context : (names : List ℕ) (old new : List Context) (r : Option Context) (c : Context) → Descends (length names) (reverse old) → old ≡ new ++ option_to_list r → (r ≡ None → length old ≡ 0) → c ≡ unwrap_or r outside → Popped names old new c
popped_context names old new (Some x) c d e h f =
    let is : reverse old ≡ x ∷ reverse new = ap reverse e ∙ reverse-append new (x ∷ []) in
    let both = subst (Descends (length names)) is d in
    subst (Popped names old new) (sym f) (record {
      first = ap (λ l. top (map (standing names) l)) is;
      others = ap (λ l. rest (map (standing names) l)) is;
      low = both.0;
      below = both.1;
    })
popped_context names old new None c d e h f =
    let n : old ≡ [] = nil_from_length old (h refl) in
    let m : new ≡ [] = sym (append-nil new) ∙ (sym e ∙ n) in
    subst (Popped names old new) (sym f) (record {
      first = ap (λ l. top (standings names l)) n;
      others = ap (λ l. rest (standings names l)) n ∙ ap (standings names) (sym m);
      low = omega arith;
      below = subst (λ (l : List Context). Descends 0 (reverse l)) (sym m) tt;
    })

-- contexts below see the same indices after a replication is entered_below
same_view : (names : List ℕ) (h : Head) (m n : ℕ) → n ≤ m → m ≤ length names → take n (entered_below m h names) ≡ take n names
same_view names (Repl i b) m n l k =
    let few : n ≤ length (take m names) = omega (arith, length-take-le m names k) in
    take-append-le n (take m names) (i ∷ []) few ∙ take-take n m names l
same_view names h m n l k = refl

same_views : (names : List ℕ) (h : Head) (m n : ℕ) (cs : List Context) → n ≤ m → m ≤ length names → Descends n cs → map (standing (entered_below m h names)) cs ≡ map (standing names) cs
same_views names h m n [] l k d = refl
same_views names h m n (c ∷ cs) l k d = ap₂ (λ t ts. (t, c.place) ∷ ts) (same_view names h m c.level (omega (arith, d.0)) k) (same_views names h m c.level cs (omega (arith, d.0)) k d.1)

entered_length : (names : List ℕ) (h : Head) (m : ℕ) → m ≤ length names → level_below m h ≤ length (entered_below m h names)
entered_length names (Repl i b) m k = omega (arith, length-append (take m names) (i ∷ []), length-take-le m names k)
entered_length names h m k = omega arith

level_more : (m : ℕ) (h : Head) → m ≤ level_below m h
level_more m (Repl i b) = omega arith
level_more m h = omega arith

second_view : (names : List ℕ) (h : Head) (m : ℕ) → m ≤ length names → take (level_below m h) (entered_below m h names) ≡ now_below h (take m names)
second_view names (Repl i b) m k =
    let l : length (take m names ++ i ∷ []) ≤ suc m = omega (arith, length-append (take m names) (i ∷ []), length-take-le m names k) in
    take_all (suc m) (take m names ++ i ∷ []) l
second_view names h m k = refl

-- the children of a node come next
pub record Opened (names : List ℕ) (old new : List Context) (after : List ℕ) (c : Context) (h : Head) : Type 0 where
  pub first : standings after new ≡ (now_below h (take c.level names), second_place c.place h) ∷ (take c.level names, first_place c.place h) ∷ standings names old
  pub descends : Descends (length after) (reverse new)

pub opened_node : (names after : List ℕ) (old new : List Context) (c : Context) (h : Head) → c.level ≤ length names → Descends c.level (reverse old) → new ≡ old ++ children c (Over h) → after ≡ entered c.level (Over h) names → Opened names old new after c h
opened_node names after old new c h l d e f =
    let is : reverse new ≡ second_context c h ∷ first_context c h ∷ reverse old = ap reverse e ∙ reverse-append old (first_context c h ∷ second_context c h ∷ []) in
    subst (λ (names' : List ℕ). Opened names old new names' c h) (sym f) (record {
      first =
          ap (map (standing (entered_below c.level h names))) is
          ∙ (ap (λ t. (t, second_place c.place h) ∷ (take c.level (entered_below c.level h names), first_place c.place h) ∷ map (standing (entered_below c.level h names)) (reverse old)) (second_view names h c.level l)
          ∙ (ap (λ t. (now_below h (take c.level names), second_place c.place h) ∷ (t, first_place c.place h) ∷ map (standing (entered_below c.level h names)) (reverse old)) (same_view names h c.level c.level (omega arith) l)
          ∙ ap (λ ts. (now_below h (take c.level names), second_place c.place h) ∷ (take c.level names, first_place c.place h) ∷ ts) (same_views names h c.level c.level (reverse old) (omega arith) l d)));
      descends = subst (Descends (length (entered_below c.level h names))) (sym is) (entered_length names h c.level l, (level_more c.level h, d));
    })

descends_more : (m n : ℕ) (cs : List Context) → m ≤ n → Descends m cs → Descends n cs
descends_more m n [] l d = tt
descends_more m n (c ∷ cs) l d = (omega (arith, d.0), d.1)

pub opened_descends : (names after : List ℕ) (old rest new : List Context) (c : Context) (m : Make) → Popped names old rest c → new ≡ rest ++ children c m → after ≡ entered c.level m names → Descends (length after) (reverse new)
opened_descends names after old rest new c Nothing p e f =
    subst (λ (names' : List ℕ). Descends (length names') (reverse new)) (sym f)
    (subst (λ (l : List Context). Descends (length names) (reverse l)) (sym (e ∙ append-nil rest)) (descends_more c.level (length names) (reverse rest) p.low p.below))
opened_descends names after old rest new c (Over h) p e f = (opened_node names after rest new c h p.low p.below e f).descends

pub nothing_descends : (names : List ℕ) (stack : List Context) → stack ≡ [] → Descends (length names) (reverse stack)
nothing_descends names stack e = subst (λ (l : List Context). Descends (length names) (reverse l)) (sym e) tt
