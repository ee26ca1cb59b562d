-- Readers that read exactly what a spelling allows, part by part.
use Rattle.std.proofs.Common.{◌≡◌, ℕ, zero, suc, ◌+◌, ◌<◌, List, [], ◌∷◌, ◌++◌, length, Bool, true, false, Option, Some, None, refl, sym, ap, subst, ◌∙◌, ◌⊎◌, inl, inr, append_assoc, append-nil, length-append, arith}
use Rattle.std.specs.Prelude.{codes, IsTrue, if◌then◌else◌}
use Rattle.chv_ast.specs.Lexemes.{Lexeme, is_sign}
use Rattle.chv_ast.specs.Spellings.{Spelling, Then, give, Marked, Meant, optional, Listed, enclosed}
use Rattle.chv_ast.specs.GrammarStatements.{list_behind}
use Rattle.chv_parse.specs.ExprReading.{sign_next, read_sign}
use Rattle.chv_parse.specs.Reading.{Reader, read_on, ◌>>=◌, ◌>>◌, given, marked, meant, behind_token, next_is, Exact}
use Rattle.chv_parse.specs.StatementReading.{either_at, optional_at, list_at, read_enclosed, read_behind, read_listed}
use Rattle.chv_parse.proofs.ListedLemmas.{read_same}

-- whatever follows
abbrev pub Anything : List Lexeme → Type 0
Anything rest = Unit {0}

-- a test fails on what follows
abbrev pub Isnt : (List Lexeme → Bool) → List Lexeme → Type 0
Isnt test rest = test rest ≡ false

-- a test holds of what follows
abbrev pub Is : (List Lexeme → Bool) → List Lexeme → Type 0
Is test rest = test rest ≡ true

-- what the spelling writes, with what may follow it, is such that a part in front of it ends
pub record Leads {A : Type 0} (p : Spelling A) (follows ends : List Lexeme → Type 0) : Type 0 where
  pub leads : (a : A) (us rest : List Lexeme) → p a us → follows rest → ends (us ++ rest)

-- a value that is read behind another one
read_both : {A B : Type 0} (f : A → Reader B) (first : Option (A × List Lexeme)) (b : B) (rest : List Lexeme) → read_on f first ≡ Some (b, rest)
    → (a : A) × (between : List Lexeme) × (first ≡ Some (a, between)) × (f a between ≡ Some (b, rest))
read_both f None b rest e = cc
read_both f (Some x) b rest e = (x.0, x.1, refl, e)

-- one part behind another
pub exact_then : {A B : Type 0} {r : Reader A} {f : A → Reader B} {p : Spelling A} {q : A → Spelling B} {ends follows : List Lexeme → Type 0}
    → Exact r p ends → ((a : A) → Exact (f a) (q a) follows) → ((a : A) → Leads (q a) follows ends) → Exact (r >>= f) (Then p q) follows
exact_then {A} {B} {r} {f} {p} {q} {ends} {follows} first second apart = record {
  sound = λ tokens rest b e.
      let x = read_both f (r tokens) b rest e in
      let u = first.sound tokens x.1 x.0 x.2 in
      let v = (second x.0).sound x.1 rest b x.3 in (
        u.0 ++ v.0,
        u.1 ∙ ap (λ (l : List Lexeme). u.0 ++ l) v.1 ∙ sym (append_assoc u.0 v.0 rest),
        record { first = x.0; us = u.0; vs = v.0; split = refl; before = u.2; behind = v.2 },
      );
  complete = λ us rest b t h.
      let a = t.first in
      let e : us ++ rest ≡ t.us ++ (t.vs ++ rest) = ap (λ (l : List Lexeme). l ++ rest) t.split ∙ append_assoc t.us t.vs rest in
      let k : r (t.us ++ (t.vs ++ rest)) ≡ Some (a, t.vs ++ rest) = first.complete t.us (t.vs ++ rest) a t.before ((apart a).leads b t.vs rest t.behind h) in
      ap (λ (l : List Lexeme). read_on f (r l)) e ∙ ap (read_on f) k ∙ (second a).complete t.vs rest b t.behind h;
}

-- the same, with the second part last
pub exact_before : {A B : Type 0} {r : Reader A} {f : A → Reader B} {p : Spelling A} {q : A → Spelling B} {ends follows : List Lexeme → Type 0}
    → Exact r p ends → ((a : A) → Leads (q a) follows ends) → ((a : A) → Exact (f a) (q a) follows) → Exact (r >>= f) (Then p q) follows
exact_before first apart second = exact_then first second apart

-- one part behind another that ends by itself
pub exact_behind : {A B : Type 0} {r : Reader A} {f : A → Reader B} {p : Spelling A} {q : A → Spelling B} {follows : List Lexeme → Type 0}
    → Exact r p Anything → ((a : A) → Exact (f a) (q a) follows) → Exact (r >>= f) (Then p q) follows
exact_behind first second = exact_then first second (λ a. record { leads = λ b us rest h k. tt })

-- the same in front of less
pub exact_narrow : {A : Type 0} {r : Reader A} {p : Spelling A} {ends follows : List Lexeme → Type 0} → Exact r p ends
    → ((rest : List Lexeme) → follows rest → ends rest) → Exact r p follows
exact_narrow one within = record { sound = one.sound; complete = λ us rest a h k. one.complete us rest a h (within rest k) }

-- a value that no token writes
pub exact_given : {A : Type 0} {a : A} {follows : List Lexeme → Type 0} → Exact (given a) (give a) follows
exact_given {A} {a} {follows} = record {
  sound = λ tokens rest b e. let p = read_same e in ([], p.1, (sym p.0, refl));
  complete = λ us rest b h k. rw (h.0, h.1) refl;
}

-- a token that passes a test
passed : (b : Bool) (tokens rest : List Lexeme) (a : Unit {0}) → ◌≡◌ {A = Option (Unit {0} × List Lexeme)} (if b then Some (tt, tokens) else None) (Some (a, rest)) → (b ≡ true) × (tokens ≡ rest)
passed true tokens rest a e = (refl, (read_same e).1)
passed false tokens rest a e = cc

marked-sound : (test : Lexeme → Bool) (tokens rest : List Lexeme) (a : Unit {0}) → marked test tokens ≡ Some (a, rest)
    → (us : List Lexeme) × (tokens ≡ us ++ rest) × Marked test a us
unfolding marked
marked-sound test [] rest a e = cc
marked-sound test (token ∷ tokens) rest a e =
    let p = passed (test token) tokens rest a e in
    (token ∷ [], ap (λ (l : List Lexeme). token ∷ l) p.1, record { token = token; alone = refl; marked = p.0 })

-- one token of which a test is true
pub exact_marked : {test : Lexeme → Bool} {follows : List Lexeme → Type 0} → Exact (marked test) (Marked test) follows
unfolding marked
exact_marked {test} {follows} = record {
  sound = marked-sound test;
  complete = λ us rest a h k. rw (h.alone, h.marked) refl;
}

-- what a token stands for
stood : {A : Type 0} (found : Option A) (tokens rest : List Lexeme) (a : A) → behind_token found tokens ≡ Some (a, rest) → (found ≡ Some a) × (tokens ≡ rest)
stood None tokens rest a e = cc
stood (Some b) tokens rest a e = let p = read_same e in (ap Some p.0, p.1)

meant-sound : {A : Type 0} (meaning : Lexeme → Option A) (tokens rest : List Lexeme) (a : A) → meant meaning tokens ≡ Some (a, rest)
    → (us : List Lexeme) × (tokens ≡ us ++ rest) × Meant meaning a us
unfolding meant
meant-sound meaning [] rest a e = cc
meant-sound meaning (token ∷ tokens) rest a e =
    let p = stood (meaning token) tokens rest a e in
    (token ∷ [], ap (λ (l : List Lexeme). token ∷ l) p.1, record { token = token; alone = refl; meant = p.0 })

-- the value that one token stands for
pub exact_meant : {A : Type 0} {meaning : Lexeme → Option A} {follows : List Lexeme → Type 0} → Exact (meant meaning) (Meant meaning) follows
unfolding meant
exact_meant {A} {meaning} {follows} = record {
  sound = meant-sound meaning;
  complete = λ us rest a h k. rw (h.alone, h.meant) refl;
}

-- what is read by the first of two readers, or by the second
read_either : {A : Type 0} (b : Bool) (x y z : Option A) → (if b then x else y) ≡ z → ((b ≡ true) × (x ≡ z)) ⊎ ((b ≡ false) × (y ≡ z))
read_either true x y z e = inl (refl, e)
read_either false x y z e = inr (refl, e)

-- one of two forms, told apart by what comes next
pub exact_either : {A : Type 0} {first : List Lexeme → Bool} {r s : Reader A} {p q o : Spelling A} {follows : List Lexeme → Type 0}
    → Exact r p follows → Exact s q follows → Leads p follows (Is first) → Leads q follows (Isnt first)
    → ((a : A) (us : List Lexeme) → p a us → o a us) → ((a : A) (us : List Lexeme) → q a us → o a us)
    → ((a : A) (us : List Lexeme) → o a us → p a us ⊎ q a us) → Exact (either_at first r s) o follows
exact_either {A} {first} {r} {s} {p} {q} {o} {follows} one other is isnt into_one into_other apart = record {
  sound = λ tokens rest a e. sound tokens rest a (read_either (first tokens) (r tokens) (s tokens) (Some (a, rest)) e);
  complete = λ us rest a h k. complete us rest a k (apart a us h);
} where
  sound : (tokens rest : List Lexeme) (a : A) → ((first tokens ≡ true) × (r tokens ≡ Some (a, rest))) ⊎ ((first tokens ≡ false) × (s tokens ≡ Some (a, rest)))
      → (us : List Lexeme) × (tokens ≡ us ++ rest) × o a us
  sound tokens rest a (inl h) = let x = one.sound tokens rest a h.1 in (x.0, x.1, into_one a x.0 x.2)
  sound tokens rest a (inr h) = let x = other.sound tokens rest a h.1 in (x.0, x.1, into_other a x.0 x.2)

  complete : (us rest : List Lexeme) (a : A) → follows rest → p a us ⊎ q a us → either_at first r s (us ++ rest) ≡ Some (a, rest)
  complete us rest a k (inl h) = let e : first (us ++ rest) ≡ true = is.leads a us rest h k in rw e (one.complete us rest a h k)
  complete us rest a k (inr h) = let e : first (us ++ rest) ≡ false = isnt.leads a us rest h k in rw e (other.complete us rest a h k)

-- a value in another form
pub exact_map : {A B : Type 0} {r : Reader A} {f : A → B} {p : Spelling A} {q : Spelling B} {follows : List Lexeme → Type 0}
    → Exact r p follows → ((a : A) (us : List Lexeme) → p a us → q (f a) us) → ((b : B) (us : List Lexeme) → q b us → (a : A) × p a us × (b ≡ f a))
    → Exact (r >>= λ a. given (f a)) q follows
exact_map {A} {B} {r} {f} {p} {q} {follows} one into back = record {
  sound = λ tokens rest b e.
      let x = read_both (λ a. given (f a)) (r tokens) b rest e in
      let u = one.sound tokens x.1 x.0 x.2 in
      let k = read_same x.3 in
      (u.0, u.1 ∙ ap (λ (l : List Lexeme). u.0 ++ l) k.1, subst (λ (v : B). q v u.0) k.0 (into x.0 u.0 u.2));
  complete = λ us rest b h k.
      let x = back b us h in
      ap (read_on (λ a. given (f a))) (one.complete us rest x.0 x.1 k) ∙ ap (λ (v : B). Some (v, rest)) (sym x.2);
}

-- what may be absent
pub exact_optional : {A : Type 0} {there : List Lexeme → Bool} {r : Reader A} {p : Spelling A} {follows : List Lexeme → Type 0}
    → Exact r p follows → Leads p follows (Is there) → ((rest : List Lexeme) → follows rest → Isnt there rest) → Exact (optional_at there r) (optional p) follows
exact_optional {A} {there} {r} {p} {follows} one is isnt =
    exact_either {q = give None} {o = optional p} (exact_map {p = p} {q = some} one (λ a us h. h) back) exact_given is_there
    (record { leads = λ a us rest h k. subst (λ (l : List Lexeme). Isnt there (l ++ rest)) (sym h.1) (isnt rest k) }) into (λ a us h. rw h.0 h.1) apart
  where
    some : Spelling (Option A)
    some None us = ⊥
    some (Some a) us = p a us

    back : (b : Option A) (us : List Lexeme) → some b us → (a : A) × p a us × (b ≡ Some a)
    back None us h = absurd h
    back (Some a) us h = (a, h, refl)

    some_there : (a : Option A) (us rest : List Lexeme) → some a us → follows rest → Is there (us ++ rest)
    some_there None us rest h k = absurd h
    some_there (Some a) us rest h k = is.leads a us rest h k

    is_there : Leads some follows (Is there)
    is_there = record { leads = some_there }

    into : (a : Option A) (us : List Lexeme) → some a us → optional p a us
    into None us h = absurd h
    into (Some a) us h = h

    apart : (a : Option A) (us : List Lexeme) → optional p a us → some a us ⊎ give None a us
    apart None us h = inr (refl, h)
    apart (Some a) us h = inl h

-- no token in front of what fails a test
pub leads_nothing : {A : Type 0} {a : A} {follows ends : List Lexeme → Type 0} → ((rest : List Lexeme) → follows rest → ends rest) → Leads (give a) follows ends
leads_nothing {A} {a} {follows} {ends} within = record { leads = λ b us rest h k. subst (λ (l : List Lexeme). ends (l ++ rest)) (sym h.1) (within rest k) }

-- a token that passes a test
pub leads_marked : {test : Lexeme → Bool} {follows ends : List Lexeme → Type 0} → ((token : Lexeme) (rest : List Lexeme) → IsTrue (test token) → follows rest → ends (token ∷ rest))
    → Leads (Marked test) follows ends
leads_marked {test} {follows} {ends} all = record { leads = λ b us rest h k. subst (λ (l : List Lexeme). ends (l ++ rest)) (sym h.alone) (all h.token rest h.marked k) }

-- a token that stands for a value
pub leads_meant : {A : Type 0} {meaning : Lexeme → Option A} {follows ends : List Lexeme → Type 0}
    → ((token : Lexeme) (rest : List Lexeme) (a : A) → meaning token ≡ Some a → follows rest → ends (token ∷ rest)) → Leads (Meant meaning) follows ends
leads_meant {A} {meaning} {follows} {ends} all = record { leads = λ b us rest h k. subst (λ (l : List Lexeme). ends (l ++ rest)) (sym h.alone) (all h.token rest b h.meant k) }

-- one part in front of another
pub leads_then : {A B : Type 0} {p : Spelling A} {q : A → Spelling B} {follows between ends : List Lexeme → Type 0}
    → Leads p between ends → ((a : A) → Leads (q a) follows between) → Leads (Then p q) follows ends
leads_then {A} {B} {p} {q} {follows} {between} {ends} one other = record {
  leads = λ b us rest t k.
      let e : t.us ++ (t.vs ++ rest) ≡ us ++ rest = sym (ap (λ (l : List Lexeme). l ++ rest) t.split ∙ append_assoc t.us t.vs rest) in
      subst ends e (one.leads t.first t.us (t.vs ++ rest) t.before ((other t.first).leads b t.vs rest t.behind k));
}

-- the first part alone decides
pub leads_first : {A B : Type 0} {p : Spelling A} {q : A → Spelling B} {follows ends : List Lexeme → Type 0} → Leads p Anything ends → Leads (Then p q) follows ends
leads_first one = leads_then one (λ a. record { leads = λ b us rest h k. tt })

-- a part that may be absent
pub leads_optional : {A : Type 0} {p : Spelling A} {follows ends : List Lexeme → Type 0} → Leads p follows ends → ((rest : List Lexeme) → follows rest → ends rest) → Leads (optional p) follows ends
leads_optional {A} {p} {follows} {ends} one none = record { leads = leads }
  where
    leads : (a : Option A) (us rest : List Lexeme) → optional p a us → follows rest → ends (us ++ rest)
    leads None us rest h k = subst (λ (l : List Lexeme). ends (l ++ rest)) (sym h) (none rest k)
    leads (Some a) us rest h k = one.leads a us rest h k

-- a list that may be absent
pub leads_list_behind : {A : Type 0} {mark : Spelling (Unit {0})} {p : Spelling A} {follows ends : List Lexeme → Type 0}
    → Leads (Then mark (λ _. Listed p)) follows ends → ((rest : List Lexeme) → follows rest → ends rest) → Leads (list_behind mark p) follows ends
leads_list_behind {A} {mark} {p} {follows} {ends} one none = record { leads = leads }
  where
    leads : (a : List A) (us rest : List Lexeme) → list_behind mark p a us → follows rest → ends (us ++ rest)
    leads [] us rest h k = subst (λ (l : List Lexeme). ends (l ++ rest)) (sym h) (none rest k)
    leads (a ∷ more) us rest h k = one.leads (a ∷ more) us rest h k

-- a mark that stands for one value
abbrev pub Standing : {A : Type 0} → A → Spelling (Unit {0}) → Spelling A
Standing a mark value tokens = (value ≡ a) × mark tt tokens

pub exact_standing : {A : Type 0} {a : A} {r : Reader (Unit {0})} {mark : Spelling (Unit {0})} {follows : List Lexeme → Type 0}
    → Exact r mark follows → Exact (r >> given a) (Standing a mark) follows
exact_standing one = exact_map one (λ u us h. (refl, h)) (λ b us h. (tt, h.1, h.0))

pub leads_standing : {A : Type 0} {a : A} {mark : Spelling (Unit {0})} {follows ends : List Lexeme → Type 0} → Leads mark follows ends → Leads (Standing a mark) follows ends
leads_standing one = record { leads = λ b us rest h k. one.leads tt us rest h.1 k }

-- a value made of another one
pub record Via {A B : Type 0} (make : A → B) (p : Spelling A) (value : B) (tokens : List Lexeme) : Type 0 where
  pub from : A
  pub written : p from tokens
  pub is : value ≡ make from

pub exact_via : {A B : Type 0} {make : A → B} {r : Reader A} {p : Spelling A} {follows : List Lexeme → Type 0}
    → Exact r p follows → Exact (r >>= λ a. given (make a)) (Via make p) follows
exact_via one = exact_map one (λ a us h. record { from = a; written = h; is = refl }) (λ b us h. (h.from, h.written, h.is))

pub leads_via : {A B : Type 0} {make : A → B} {p : Spelling A} {follows ends : List Lexeme → Type 0} → Leads p follows ends → Leads (Via make p) follows ends
leads_via one = record { leads = λ b us rest h k. one.leads h.from us rest h.written k }

-- one of two forms
pub leads_either : {A : Type 0} {p q o : Spelling A} {follows ends : List Lexeme → Type 0} → Leads p follows ends → Leads q follows ends
    → ((a : A) (us : List Lexeme) → o a us → p a us ⊎ q a us) → Leads o follows ends
leads_either {A} {p} {q} {o} {follows} {ends} one other apart = record { leads = λ a us rest h k. leads a us rest (apart a us h) k }
  where
    leads : (a : A) (us rest : List Lexeme) → p a us ⊎ q a us → follows rest → ends (us ++ rest)
    leads a us rest (inl h) k = one.leads a us rest h k
    leads a us rest (inr h) k = other.leads a us rest h k

-- two things that end at once
pub leads_both : {A : Type 0} {p : Spelling A} {follows ends also : List Lexeme → Type 0} → Leads p follows ends → Leads p follows also → Leads p follows (λ rest. ends rest × also rest)
leads_both one other = record { leads = λ a us rest h k. (one.leads a us rest h k, other.leads a us rest h k) }

-- a list is not empty
pub Listed-some : {A : Type 0} {p : Spelling A} (us : List Lexeme) → Listed p [] us → ⊥
Listed-some us h = elim h [ ]

-- a list that may be absent
pub exact_list : {A : Type 0} {there : List Lexeme → Bool} {r : Reader (List A)} {mark : Spelling (Unit {0})} {p : Spelling A} {follows : List Lexeme → Type 0}
    → Exact r (Then mark (λ _. Listed p)) follows → Leads mark Anything (Is there) → ((rest : List Lexeme) → follows rest → Isnt there rest)
    → Exact (list_at there r) (list_behind mark p) follows
exact_list {A} {there} {r} {mark} {p} {follows} one is isnt =
    exact_either {p = Then mark (λ _. Listed p)} {q = give []} {o = list_behind mark p} one exact_given (leads_first is)
    (leads_nothing isnt) into (λ a us h. rw h.0 h.1) apart
  where
    into : (a : List A) (us : List Lexeme) → Then mark (λ _. Listed p) a us → list_behind mark p a us
    into [] us h = absurd (Listed-some h.vs h.behind)
    into (a ∷ more) us h = h

    apart : (a : List A) (us : List Lexeme) → list_behind mark p a us → Then mark (λ _. Listed p) a us ⊎ give [] a us
    apart [] us h = inr (refl, h)
    apart (a ∷ more) us h = inl h

-- a value in parentheses
pub exact_enclosed : {A : Type 0} {r : Reader A} {p : Spelling A} {ends follows : List Lexeme → Type 0}
    → Exact r p ends → ((token : Lexeme) (rest : List Lexeme) → IsTrue (is_sign (codes ")") token) → ends (token ∷ rest)) → Exact (read_enclosed r) (enclosed p) follows
exact_enclosed one closing =
    exact_behind exact_marked (λ _. exact_then one (λ a. exact_behind exact_marked (λ _. exact_given)) (λ a. leads_then {between = Anything} (leads_marked (λ token rest h k. closing token rest h)) (λ _. record { leads = λ b us rest h k. tt })))

-- the tokens write the values behind one, each behind a comma
record Behind {A : Type 0} (p : Spelling A) (values : List A) (us : List Lexeme) : Type 0 where
  pub joins : (value : A) (vs : List Lexeme) → p value vs → Listed p (value ∷ values) (vs ++ us)

module _ {A : Type 0} (r : Reader A) (p : Spelling A) (ends follows : List Lexeme → Type 0) (one : Exact r p ends) where
  behind-none : Behind p [] []
  behind-none = record { joins = λ value vs h. subst (Listed p (value ∷ [])) (sym (append-nil vs)) (Listed.One value vs h) }

  -- what is read behind a value is written so
  BehindSound : ℕ → Type 0
  BehindSound count = (tokens rest : List Lexeme) (values : List A) → read_behind r count tokens ≡ Some (values, rest)
      → (us : List Lexeme) × (tokens ≡ us ++ rest) × Behind p values us

  behind-more : (count : ℕ) → BehindSound count → (tokens rest : List Lexeme) (values : List A)
      → (read_sign (codes ",") >> (r >>= λ value. read_behind r count >>= λ more. given (value ∷ more))) tokens ≡ Some (values, rest)
      → (us : List Lexeme) × (tokens ≡ us ++ rest) × Behind p values us
  unfolding BehindSound
  behind-more count hyp tokens rest values e =
      let x = read_both (λ (u : Unit {0}). r >>= λ value. read_behind r count >>= λ more. given (value ∷ more)) (read_sign (codes ",") tokens) values rest e in
      let c = marked-sound (is_sign (codes ",")) tokens x.1 x.0 x.2 in
      let y = read_both (λ value. read_behind r count >>= λ more. given (value ∷ more)) (r x.1) values rest x.3 in
      let z = read_both (λ more. given (y.0 ∷ more)) (read_behind r count y.1) values rest y.3 in
      let v = one.sound x.1 y.1 y.0 y.2 in
      let w = hyp y.1 z.1 z.0 z.2 in
      let k = read_same z.3 in
      let comma = c.2.token in
      let split : tokens ≡ (comma ∷ (v.0 ++ w.0)) ++ rest =
      c.1 ∙ ap (λ (l : List Lexeme). l ++ x.1) c.2.alone
      ∙ ap (λ (l : List Lexeme). comma ∷ l) (v.1 ∙ ap (λ (l : List Lexeme). v.0 ++ l) w.1 ∙ sym (append_assoc v.0 w.0 z.1) ∙ ap (λ (l : List Lexeme). (v.0 ++ w.0) ++ l) k.1) in (
        comma ∷ (v.0 ++ w.0),
        split,
        record {
          joins = λ value vs h. subst (λ (l : List A). Listed p (value ∷ l) (vs ++ comma ∷ (v.0 ++ w.0))) k.0
              (Listed.More value (y.0 ∷ z.0) comma vs (v.0 ++ w.0) h c.2.marked (w.2.joins y.0 v.0 v.2));
        },
      )

  behind-turn : (count : ℕ) → BehindSound count → (tokens rest : List Lexeme) (values : List A)
      → ((sign_next (codes ",") tokens ≡ true) × ((read_sign (codes ",") >> (r >>= λ value. read_behind r count >>= λ more. given (value ∷ more))) tokens ≡ Some (values, rest)))
      ⊎ ((sign_next (codes ",") tokens ≡ false) × ◌≡◌ {A = Option (List A × List Lexeme)} (Some ([], tokens)) (Some (values, rest)))
      → (us : List Lexeme) × (tokens ≡ us ++ rest) × Behind p values us
  behind-turn count hyp tokens rest values (inl h) = behind-more count hyp tokens rest values h.1
  behind-turn count hyp tokens rest values (inr h) = let k = read_same h.1 in ([], k.1, subst (λ (l : List A). Behind p l []) k.0 behind-none)

  behind-sound : (count : ℕ) → BehindSound count
  unfolding BehindSound read_behind
  behind-sound zero tokens rest values e = cc
  behind-sound (suc count) tokens rest values e =
      behind-turn count (behind-sound count) tokens rest values
      (read_either (sign_next (codes ",") tokens) ((read_sign (codes ",") >> (r >>= λ value. read_behind r count >>= λ more. given (value ∷ more))) tokens) (Some ([], tokens)) (Some (values, rest)) e)

  module _ (within : (rest : List Lexeme) → follows rest → ends rest) (apart : (rest : List Lexeme) → follows rest → Isnt (sign_next (codes ",")) rest)
      (comma_ends : (token : Lexeme) (rest : List Lexeme) → IsTrue (is_sign (codes ",") token) → ends (token ∷ rest)) where
    behind-ends : (count : ℕ) (rest : List Lexeme) → follows rest → read_behind r (suc count) rest ≡ Some ([], rest)
    unfolding read_behind
    behind-ends count rest k = rw (apart rest k) refl

    comma-read : (count : ℕ) (comma : Lexeme) (vs rest : List Lexeme) → IsTrue (is_sign (codes ",") comma)
        → read_behind r (suc count) (comma ∷ vs) ≡ (r >>= λ value. read_behind r count >>= λ values. given (value ∷ values)) vs
    unfolding read_behind marked next_is
    comma-read count comma vs rest c = rw c refl

    listed-complete : (count : ℕ) (values : List A) (us rest : List Lexeme) → Listed p values us → length us < count → follows rest
        → (r >>= λ value. read_behind r count >>= λ values. given (value ∷ values)) (us ++ rest) ≡ Some (values, rest)
    listed-complete zero values us rest h n k = absurd (omega arith)
    listed-complete (suc count) _ _ rest (Listed.One value us h) n k =
        let f = λ (value : A). read_behind r (suc count) >>= λ values. given (value ∷ values) in
        ap (read_on f) (one.complete us rest value h (within rest k)) ∙ ap (read_on (λ values. given (value ∷ values))) (behind-ends count rest k)
    listed-complete (suc count) _ _ rest (Listed.More value values comma us vs h c more) n k =
        let f = λ (value : A). read_behind r (suc count) >>= λ values. given (value ∷ values) in
        let short : length vs < count = omega (arith, length-append us (comma ∷ vs)) in
        let e : (us ++ comma ∷ vs) ++ rest ≡ us ++ (comma ∷ (vs ++ rest)) = append_assoc us (comma ∷ vs) rest in
        ap (λ (l : List Lexeme). read_on f (r l)) e
        ∙ ap (read_on f) (one.complete us (comma ∷ (vs ++ rest)) value h (comma_ends comma (vs ++ rest) c))
        ∙ ap (read_on (λ values. given (value ∷ values))) (comma-read count comma (vs ++ rest) rest c ∙ listed-complete count values vs rest more short k)

    -- one value or more, with a comma between two of them
    pub exact_listed : Exact (read_listed r) (Listed p) follows
    unfolding read_listed BehindSound
    exact_listed = record {
      sound = λ tokens rest values e.
          let x = read_both (λ value. read_behind r (length tokens + 1) >>= λ more. given (value ∷ more)) (r tokens) values rest e in
          let y = read_both (λ more. given (x.0 ∷ more)) (read_behind r (length tokens + 1) x.1) values rest x.3 in
          let v = one.sound tokens x.1 x.0 x.2 in
          let w = behind-sound (length tokens + 1) x.1 y.1 y.0 y.2 in
          let k = read_same y.3 in (
            v.0 ++ w.0,
            v.1 ∙ ap (λ (l : List Lexeme). v.0 ++ l) (w.1 ∙ ap (λ (l : List Lexeme). w.0 ++ l) k.1) ∙ sym (append_assoc v.0 w.0 rest),
            subst (λ (l : List A). Listed p l (v.0 ++ w.0)) k.0 (w.2.joins x.0 v.0 v.2),
          );
      complete = λ us rest values h k. listed-complete (length (us ++ rest) + 1) values us rest h (omega (arith, length-append us rest)) k;
    }

-- a value that is tested once it is read
module _ {A : Type 0} {r : Reader A} {p : Spelling A} {follows : List Lexeme → Type 0} (test : A → Bool) (P : A → Type 0)
    (passes : (a : A) → test a ≡ true → P a) (passed_by : (a : A) → P a → test a ≡ true) (one : Exact r p follows) where
  pub exact_tested : Exact (r >>= λ a tokens. if test a then Some (a, tokens) else None) (λ a us. p a us × P a) follows
  exact_tested = record {
    sound = λ tokens rest b e. sound tokens rest b e;
    complete = λ us rest a h k. ap (read_on kept) (one.complete us rest a h.0 k) ∙ complete a rest (passed_by a h.1);
  } where
    kept : A → Reader A
    kept a tokens = if test a then Some (a, tokens) else None

    complete : (a : A) (rest : List Lexeme) → test a ≡ true → kept a rest ≡ Some (a, rest)
    complete a rest e = rw e refl

    chosen : (a b : A) (between rest : List Lexeme) (t : Bool) → test a ≡ t → ◌≡◌ {A = Option (A × List Lexeme)} (if t then Some (a, between) else None) (Some (b, rest))
        → P a × (a ≡ b) × (between ≡ rest)
    chosen a b between rest true t e = let k = read_same e in (passes a t, k.0, k.1)
    chosen a b between rest false t e = cc

    sound : (tokens rest : List Lexeme) (b : A) → (r >>= kept) tokens ≡ Some (b, rest) → (us : List Lexeme) × (tokens ≡ us ++ rest) × (p b us × P b)
    sound tokens rest b e =
        let x = read_both kept (r tokens) b rest e in
        let u = one.sound tokens x.1 x.0 x.2 in
        let c = chosen x.0 b x.1 rest (test x.0) refl x.3 in
        (u.0, u.1 ∙ ap (λ (l : List Lexeme). u.0 ++ l) c.2, (subst (λ (v : A). p v u.0) c.1 u.2, subst P c.1 c.0))
