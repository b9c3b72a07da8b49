-- Texts with their signs, one in front of another.
use Rattle.std.proofs.Common.{◌≡◌, ℕ, Bool, true, false, not, List, [], ◌∷◌, ◌++◌, sym, subst, append_assoc}
use Rattle.std.specs.Prelude.{⊤}
use Rattle.cv_lex.specs.Lexis.{is_inner}
use Rattle.cv_parse_notation.specs.declared.sign.Sign.{Sign}
use Rattle.cv_print_bytes.proofs.Shown.{Shows}

-- no letter, digit or '_' is first
abbrev pub is_apart : List ℕ → Bool
is_apart [] = true
is_apart (b ∷ bs) = not (is_inner b)

-- a text begins so, if that is asked
abbrev pub Begins : Bool → List ℕ → Type 0
Begins true text = is_apart text ≡ true
Begins false text = ⊤

pub begins : (p : Bool) (text : List ℕ) → is_apart text ≡ true → Begins p text
begins true text e = e
begins false text e = tt

-- in front of a text that begins as q asks, this one has these signs, and begins as p asks
pub record Front (names : List (List ℕ)) (p q : Bool) (text : List ℕ) (ss : List Sign) : Type 0 where
  pub goes : (rest : List ℕ) (more : List Sign) → Begins q rest → Shows names rest more → Begins p (text ++ rest) × Shows names (text ++ rest) (ss ++ more)

-- the same, where further signs are put behind by a function
pub record Chain (names : List (List ℕ)) (p q : Bool) (text : List ℕ) (F : List Sign → List Sign) : Type 0 where
  pub goes : (rest : List ℕ) (more x : List Sign) → Begins q rest → Shows names rest (x ++ more) → Begins p (text ++ rest) × Shows names (text ++ rest) (F x ++ more)

-- nothing
pub nothing : {names : List (List ℕ)} {p : Bool} → Front names p p [] []
nothing = record { goes = λ rest more h w. (h, w) }

pub none : {names : List (List ℕ)} {p : Bool} → Front names p true [] []
none {p = p} = record { goes = λ rest more h w. (begins p rest h, w) }

both_again : (names : List (List ℕ)) (p : Bool) (a b rest : List ℕ) (l : List Sign) → Begins p (a ++ (b ++ rest)) × Shows names (a ++ (b ++ rest)) l → Begins p ((a ++ b) ++ rest) × Shows names ((a ++ b) ++ rest) l
both_again names p a b rest l r = subst (λ z. Begins p z × Shows names z l) (sym (append_assoc a b rest)) r

-- a list of texts, grouped from the left, has signs that are grouped from the right
pub first : {names : List (List ℕ)} {p q : Bool} {a : List ℕ} {s : List Sign} → Front names p q a s → Chain names p q a (λ x. s ++ x)
first {names = names} {p = p} {a = a} {s = s} f = record {
  goes = λ rest more x h w. subst (λ l. Begins p (a ++ rest) × Shows names (a ++ rest) l) (sym (append_assoc s x more)) (f.goes rest (x ++ more) h w);
}

infixl 30 ◌and◌
pub ◌and◌ : {names : List (List ℕ)} {p m q : Bool} {a b : List ℕ} {F : List Sign → List Sign} {t : List Sign} → Chain names p m a F → Front names m q b t → Chain names p q (a ++ b) (λ x. F (t ++ x))
◌and◌ {names = names} {p = p} {a = a} {b = b} {F = F} {t = t} f g = record {
  goes = λ rest more x h w.
      let v = g.goes rest (x ++ more) h w in
      both_again names p a b rest (F (t ++ x) ++ more) (f.goes (b ++ rest) more (t ++ x) v.0 (subst (λ l. Shows names (b ++ rest) l) (sym (append_assoc t x more)) v.1));
}

infixl 30 ◌last◌
pub ◌last◌ : {names : List (List ℕ)} {p m q : Bool} {a b : List ℕ} {F : List Sign → List Sign} {t : List Sign} → Chain names p m a F → Front names m q b t → Front names p q (a ++ b) (F t)
◌last◌ {names = names} {p = p} {a = a} {b = b} {F = F} {t = t} f g = record {
  goes = λ rest more h w. let v = g.goes rest more h w in both_again names p a b rest (F t ++ more) (f.goes (b ++ rest) more t v.0 v.1);
}
