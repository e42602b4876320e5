-- Ways from net to net by deeds of a kind, on which nothing is lost, and the word of a house brought to another.
use Rattle.std.proofs.Common.{◌≡◌, ℕ, zero, suc, ◌+◌, ◌<◌, ◌≤◌, Bool, true, false, cond, eqb, ◌⊎◌, List, [], ◌∷◌, ◌++◌, length, is_some, Some, None, Option, sym, refl, ap, ◌∙◌, subst, inl, inr, ⊎_elim, arith}
use Rattle.std.specs.List.{ContainsAt as Has, AllByRecursion}
use Rattle.std.proofs.ByRecursion.{All-append, All-weaker, has_push}
use Rattle.std.proofs.lemmas.Bool.{false≢true, both_ways, eqb-true, eq-eqb, cases_lt, cases_eq, cond-true, cond_both}
use Rattle.orders.specs.Transaction.{Transaction, is_in, lookup}
use Rattle.protocol.specs.Log.{houses, own_reads}
use Rattle.protocol.specs.House.{House, Plan}
use Rattle.protocol.specs.Machine.{Message, told, Deed, grow, look, write, sync, tell, ask, hear, checkpoint, say, drop, crash, calm, plain, put, hears}
use Rattle.protocol.specs.Machine.{Act, grows, syncs, tells, hears_told, Net, acts, Run, stay, then}

value_of : {A : Type 0} (o : Option A) → is_some o ≡ true → (v : A) × (o ≡ Some v)
value_of None e = absurd (false≢true e)
value_of (Some v) e = (v, refl)

pub put_same : {A : Type 0} (i : ℕ) (x : A) (f : ℕ → A) → put i x f i ≡ x
put_same i x f = cond-true (eqb i i) x (f i) (eq-eqb i i refl)

-- x' is x, unless it may change, and then it passes
abbrev pub Stays : {A : Type 0} → (A → Bool) → Bool → A → A → Type 0
Stays passes free x x' = (x' ≡ x) ⊎ ((passes x' ≡ true) × (free ≡ true))

module _ {A : Type 0} (passes : A → Bool) (free : Bool) where
  pub stays_put : (i : ℕ) (x : A) (f : ℕ → A) (j : ℕ) → passes x ≡ true → free ≡ true → Stays passes free (f j) (put i x f j)
  stays_put i x f j e t = cond_both (eqb j i) x (f j) (Stays passes free (f j)) (λ _. inr (e, t)) (λ _. inl refl)

  stays_on : (x y z : A) → Stays passes free x y → Stays passes free y z → Stays passes free x z
  stays_on x y z (inl e) (inl e') = inl (e' ∙ e)
  stays_on x y z (inr h) (inl e') = inr (ap passes e' ∙ h.0, h.1)
  stays_on x y z a (inr h) = inr h

  pub stays_true : (x y : A) → Stays passes free x y → passes x ≡ true → passes y ≡ true
  stays_true x y (inl e) h = ap passes e ∙ h
  stays_true x y (inr k) h = k.0

  pub stays_same : (x y : A) → Stays passes free x y → free ≡ false → y ≡ x
  stays_same x y (inl e) h = e
  stays_same x y (inr k) h = absurd (both_ways free h k.1)

  stays_freely : (x y : A) → Stays passes free x y → Stays passes true x y
  stays_freely x y (inl e) = inl e
  stays_freely x y (inr h) = inr (h.0, refl)

-- what the deeds that pass the test leave of a house
pub record Onward (test : Deed → Bool) (s s' : House) : Type 0 where
  pub place : s'.place ≡ s.place
  pub have : s.have ≤ s'.have
  pub noted : (i : ℕ) → Stays is_some (test (look i)) (s.noted i) (s'.noted i)
  pub wrote : (i : ℕ) → Stays (λ b. b) (test (write i)) (s.wrote i) (s'.wrote i)
  pub heard : (i k : ℕ) → Stays is_some true (s.heard i k) (s'.heard i k)

abbrev pub Later : (Deed → Bool) → Net → Net → Type 0
Later test n m = (h : ℕ) → Onward test (n.house h) (m.house h)

onward_same : (test : Deed → Bool) (s : House) → Onward test s s
onward_same test s = record { place = refl; have = omega arith; noted = λ i. inl refl; wrote = λ i. inl refl; heard = λ i k. inl refl }

onward_on : (test : Deed → Bool) (s t u : House) → Onward test s t → Onward test t u → Onward test s u
onward_on test s t u a b = record {
  place = b.place ∙ a.place;
  have = omega (arith, a.have, b.have);
  noted = λ i. stays_on is_some (test (look i)) (s.noted i) (t.noted i) (u.noted i) (a.noted i) (b.noted i);
  wrote = λ i. stays_on (λ b. b) (test (write i)) (s.wrote i) (t.wrote i) (u.wrote i) (a.wrote i) (b.wrote i);
  heard = λ i k. stays_on is_some true (s.heard i k) (t.heard i k) (u.heard i k) (a.heard i k) (b.heard i k);
}

calmly : (s t : House) → Onward plain s t → Onward calm s t
calmly s t a = record {
  place = a.place;
  have = a.have;
  noted = λ i. stays_freely is_some (plain (look i)) (s.noted i) (t.noted i) (a.noted i);
  wrote = λ i. stays_freely (λ b. b) (plain (write i)) (s.wrote i) (t.wrote i) (a.wrote i);
  heard = a.heard;
}

calm_from_plain : (d : Deed) → plain d ≡ true → calm d ≡ true
calm_from_plain grow e = refl
calm_from_plain (look i) e = refl
calm_from_plain (write i) e = refl
calm_from_plain sync e = refl
calm_from_plain (tell i) e = refl
calm_from_plain (ask i g) e = refl
calm_from_plain (hear m) e = refl
calm_from_plain (checkpoint c) e = refl
calm_from_plain say e = refl
calm_from_plain (drop i) e = e
calm_from_plain crash e = e

pub later_put : (test : Deed → Bool) (h : ℕ) (s : House) (f : ℕ → House) → Onward test (f h) s → (g : ℕ) → Onward test (f g) (put h s f g)
later_put test h s f on g =
    cond_both (eqb g h) s (f g) (Onward test (f g)) (λ e. subst (λ x. Onward test (f x) s) (sym (eqb-true g h e)) on) (λ _. onward_same test (f g))

module _ (os : List Transaction) (p : Plan) where
  -- a run of deeds that pass the test leads to a net of which P holds
  pub record Leads (test : Deed → Bool) (n : Net) (P : Net → Type 0) : Type 0 where
    pub net : Net
    pub deeds : List (ℕ × Deed)
    pub pass : AllByRecursion (λ d. test d.1 ≡ true) deeds
    pub run : Run os p deeds n net
    pub on : Later test n net
    pub holds : P net

  run_on : (ds es : List (ℕ × Deed)) (n m l : Net) → Run os p ds n m → Run os p es m l → Run os p (es ++ ds) n l
  run_on ds es n m l a stay = a
  run_on ds es n m l a (then b s) = then (run_on ds _ n m _ a b) s

  pub here : (test : Deed → Bool) (n : Net) (P : Net → Type 0) → P n → Leads test n P
  here test n P h = record { net = n; deeds = []; pass = tt; run = stay; on = λ g. onward_same test (n.house g); holds = h }

  module _ (test : Deed → Bool) (n : Net) (P Q : Net → Type 0) where
    pub and_then : Leads test n P → ((m : Net) → Later test n m → P m → Leads test m Q) → Leads test n Q
    and_then a f =
        let b = f a.net a.on a.holds in
        record {
          net = b.net;
          deeds = b.deeds ++ a.deeds;
          pass = All-append (λ d. test d.1 ≡ true) b.deeds a.deeds b.pass a.pass;
          run = run_on a.deeds b.deeds n a.net b.net a.run b.run;
          on = λ g. onward_on test (n.house g) (a.net.house g) (b.net.house g) (a.on g) (b.on g);
          holds = b.holds;
        }

  pub leads_calmly : (n : Net) (P : Net → Type 0) → Leads plain n P → Leads calm n P
  leads_calmly n P a = record {
    net = a.net;
    deeds = a.deeds;
    pass = All-weaker (λ d. plain d.1 ≡ true) (λ d. calm d.1 ≡ true) (λ d. calm_from_plain d.1) a.deeds a.pass;
    run = a.run;
    on = λ g. calmly (n.house g) (a.net.house g) (a.on g);
    holds = a.holds;
  }

  -- one deed
  module _ (test : Deed → Bool) (n : Net) (h : ℕ) (in' : h < houses) where
    does : (d : Deed) (s : House) (sent : List Message) → test d ≡ true → Onward test (n.house h) s → Act os p h n.soup d (n.house h) s sent →
        Leads test n (λ m. (m.house h ≡ s) × (m.soup ≡ n.soup ++ sent))
    does d s sent e on a = record {
      net = record { house = put h s n.house; soup = n.soup ++ sent };
      deeds = (h, d) ∷ [];
      pass = (e, tt);
      run = then stay (acts in' a);
      on = later_put test h s n.house on;
      holds = (put_same h s n.house, refl);
    }

  -- each house in turn
  module _ (test : Deed → Bool) (n : Net) (P : ℕ → Net → Type 0) (lasts : (g : ℕ) (m l : Net) → Later test m l → P g m → P g l) where
    pub each_house : ((g : ℕ) → g < houses → (m : Net) → Later test n m → Leads test m (P g)) → (c : ℕ) → c ≤ houses → Leads test n (λ m. (g : ℕ) → g < c → P g m)
    each_house one zero l = here test n _ (λ g b. absurd (omega arith))
    each_house one (suc c) l =
        and_then test n (λ m. (g : ℕ) → g < c → P g m) (λ m. (g : ℕ) → g < suc c → P g m) (each_house one c (omega arith)) (λ m on all.
        and_then test m (P c) (λ m. (g : ℕ) → g < suc c → P g m) (one c l m on) (λ k after last.
        here test k _ (λ g b. ⊎_elim
        (λ e. subst (λ x. P x k) (sym e) last)
        (λ e. lasts g m k after (all g (omega arith)))
        (cases_eq g c))))

  -- the log of a house grows beyond an order
  module _ (h i : ℕ) (in' : h < houses) (log : i < length os) where
    grows_by : (c : ℕ) (n : Net) → i < (n.house h).have + c → Leads plain n (λ m. i < (m.house h).have)
    grows_by zero n l = here plain n _ (omega arith)
    grows_by (suc c) n l = ⊎_elim
        (λ b. here plain n _ b)
        (λ b.
        let s = n.house h in
        let s' : House = record { have = suc s.have; value = s.value; noted = s.noted; synced = s.synced; wrote = s.wrote; heard = s.heard; place = s.place; saved = s.saved; copied = s.copied } in
        and_then plain n _ (λ m. i < (m.house h).have)
        (does plain n h in' grow s' []
        refl (record { place = refl; have = omega arith; noted = λ j. inl refl; wrote = λ j. inl refl; heard = λ j k. inl refl })
        (grows s (omega arith)))
        (λ m on e. grows_by c m (let more : (m.house h).have ≡ suc (n.house h).have = ap (λ x. x.have) e.0 in omega arith)))
        (cases_lt i (n.house h).have)

    pub grown : (n : Net) → Leads plain n (λ m. i < (m.house h).have)
    grown n = grows_by (suc i) n (omega arith)

  -- house h has heard all that house g reads for an order
  abbrev pub Heard : ℕ → ℕ → ℕ → Net → Type 0
  Heard h g i m = (k : ℕ) → is_in k (own_reads os p.own g i) ≡ true → is_some ((m.house h).heard i k) ≡ true

  -- house g tells house h what it has noted for an order
  module _ (h g i : ℕ) (in_h : h < houses) (in_g : g < houses) where
    synced : (n : Net) → is_some ((n.house g).noted i) ≡ true → Leads plain n (λ m. (m.house g).synced i ≡ true)
    synced n noted =
        let s = n.house g in
        let s' : House = record { have = s.have; value = s.value; noted = s.noted; synced = λ j. is_some (s.noted j); wrote = s.wrote; heard = s.heard; place = s.place; saved = s.saved; copied = s.copied } in
        and_then plain n _ (λ m. (m.house g).synced i ≡ true)
        (does plain n g in_g sync s' []
        refl (record { place = refl; have = omega arith; noted = λ j. inl refl; wrote = λ j. inl refl; heard = λ j k. inl refl })
        (syncs s s'.synced (λ j. refl)))
        (λ m on e. here plain m _ (ap (λ x. x.synced i) e.0 ∙ noted))

    sent : (n : Net) → is_some ((n.house g).noted i) ≡ true → (n.house g).synced i ≡ true → Leads plain n (λ m. (vs : List ℕ) × Has m.soup (told g i vs))
    sent n noted disk =
        let s = n.house g in
        let v = value_of (s.noted i) noted in
        and_then plain n _ (λ m. (vs : List ℕ) × Has m.soup (told g i vs))
        (does plain n g in_g (tell i) s (told g i v.0 ∷ []) refl (onward_same plain s) (tells s i v.0 v.1 disk))
        (λ m on e. here plain m _ (v.0, subst (λ x. Has x (told g i v.0)) (sym e.1) (has_push n.soup (told g i v.0))))

    heard : (n : Net) (vs : List ℕ) → i < (n.house h).have → Has n.soup (told g i vs) → Leads plain n (Heard h g i)
    heard n vs has word =
        let s = n.house h in
        let ks = own_reads os p.own g i in
        let now' : ℕ → ℕ → Option ℕ = λ j k. cond (eqb j i) (hears ks vs (s.heard i) k) (s.heard j k) in
        let s' : House = record { have = s.have; value = s.value; noted = s.noted; synced = s.synced; wrote = s.wrote; heard = now'; place = s.place; saved = s.saved; copied = s.copied } in
        let stays : (j k : ℕ) → Stays is_some true (s.heard j k) (now' j k) = λ j k.
        cond_both (eqb j i) (hears ks vs (s.heard i) k) (s.heard j k) (Stays is_some true (s.heard j k))
        (λ e. cond_both (is_in k ks) (Some (lookup ks vs k 0)) (s.heard i k) (Stays is_some true (s.heard j k))
        (λ _. inr (refl, refl)) (λ _. inl (ap (λ x. s.heard x k) (sym (eqb-true j i e)))))
        (λ _. inl refl) in
        and_then plain n _ (Heard h g i)
        (does plain n h in_h (hear (told g i vs)) s' []
        refl (record { place = refl; have = omega arith; noted = λ j. inl refl; wrote = λ j. inl refl; heard = stays })
        (hears_told s g i vs now' word has (λ j k. refl)))
        (λ m on e. here plain m _ (λ k e'.
        ap (λ x. is_some (x.heard i k)) e.0
        ∙ ap is_some (cond-true (eqb i i) (hears ks vs (s.heard i) k) (s.heard i k) (eq-eqb i i refl) ∙ cond-true (is_in k ks) (Some (lookup ks vs k 0)) (s.heard i k) e')))

    pub delivered : (n : Net) → i < (n.house h).have → is_some ((n.house g).noted i) ≡ true → Leads plain n (Heard h g i)
    delivered n has noted =
        and_then plain n _ (Heard h g i) (synced n noted) (λ m on disk.
        let noted' = stays_true is_some false ((n.house g).noted i) ((m.house g).noted i) ((on g).noted i) noted in
        and_then plain m _ (Heard h g i) (sent m noted' disk) (λ l on' word.
        heard l word.0 (omega (arith, (on h).have, (on' h).have)) word.1))
