-- What the four links say.
use Rattle.std.proofs.Common.{◌≡◌, ⊎_elim, ◌<◌, true, ◌&&◌, nat_lt, Option, Some, None, refl, ap, subst, ◌∙◌, ltb-true}
use Rattle.std.proofs.lemmas.Bool.{or_left, or_right, or_cases, and_from, and_parts, lt-ltb}
use Rattle.bench_model.specs.Paths.{Path, is_path}
use Rattle.bench_model.specs.Log.{Kind, Event, link, is_fork_of, is_end, names_joined}
use Rattle.bench_model.specs.Log.Kind.{forks, ends}
use Rattle.bench_model.proofs.PathFacts.{is_path_refl, is_path_same}

pub is_fork : (k : Kind) (p : Path) → k ≡ forks p → is_fork_of k p ≡ true
is_fork k p h = ap (λ k. is_fork_of k p) h ∙ is_path_refl p

pub fork_is : (k : Kind) (p : Path) → is_fork_of k p ≡ true → k ≡ forks p
fork_is (forks c) p h = ap forks (is_path_same c p h)
fork_is _ p h = absurd (cc)

pub is_joined : (o : Option Path) (p : Path) → o ≡ Some p → names_joined o p ≡ true
is_joined o p h = ap (λ o. names_joined o p) h ∙ is_path_refl p

pub joined_is : (o : Option Path) (p : Path) → names_joined o p ≡ true → o ≡ Some p
joined_is None p h = absurd (cc)
joined_is (Some c) p h = ap Some (is_path_same c p h)

pub end_is : (k : Kind) → is_end k ≡ true → k ≡ ends
end_is ends h = refl
end_is _ h = absurd (cc)

-- ---- each link
module _ (d e : Event) where
  pub link_thread : d.path ≡ e.path → link d e ≡ true
  link_thread h = or_left (is_path d.path e.path) _ (subst (λ p. is_path d.path p ≡ true) h (is_path_refl d.path))

  pub link_fork : d.kind ≡ forks e.path → link d e ≡ true
  link_fork h = or_right (is_path d.path e.path) _ (or_left (is_fork_of d.kind e.path) _ (is_fork d.kind e.path h))

  pub link_end : d.kind ≡ ends → e.joined ≡ Some d.path → link d e ≡ true
  link_end h j =
      or_right (is_path d.path e.path) _ (or_right (is_fork_of d.kind e.path) _
      (or_left (is_end d.kind && names_joined e.joined d.path) _ (and_from (is_end d.kind) (names_joined e.joined d.path) (ap is_end h) (is_joined e.joined d.path j))))

  pub link_region : d.region < e.region → link d e ≡ true
  link_region n =
      or_right (is_path d.path e.path) _ (or_right (is_fork_of d.kind e.path) _
      (or_right (is_end d.kind && names_joined e.joined d.path) _ (lt-ltb d.region e.region n)))

  pub data Linked : Type 0 where
    same_thread : d.path ≡ e.path → Linked
    by_fork : d.kind ≡ forks e.path → Linked
    by_end : d.kind ≡ ends → e.joined ≡ Some d.path → Linked
    by_region : d.region < e.region → Linked

  pub linked : link d e ≡ true → Linked
  linked l =
      ⊎_elim (λ h. same_thread (is_path_same d.path e.path h))
      (λ h. ⊎_elim (λ f. by_fork (fork_is d.kind e.path f))
      (λ g. ⊎_elim (λ k. let x = and_parts (is_end d.kind) (names_joined e.joined d.path) k in by_end (end_is d.kind x.0) (joined_is e.joined d.path x.1))
      (λ k. by_region (ltb-true d.region e.region k))
      (or_cases (is_end d.kind && names_joined e.joined d.path) (nat_lt d.region e.region) g))
      (or_cases (is_fork_of d.kind e.path) _ h))
      (or_cases (is_path d.path e.path) _ l)
