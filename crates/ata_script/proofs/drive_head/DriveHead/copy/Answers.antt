use Rattle.std.proofs.Common.{◌≡◌, ◌≤◌, subst, sym, codes}
use Rattle.ata_base.specs.Limits.{most_drive_sectors}
use Rattle.ata_base.specs.declared.identity.Identity.{Identity}
use Rattle.ata_trace.specs.Names.{IsDriveName}
use Rattle.ata_script.proofs.drive_head.DriveHead.copy.Goals as goal

pub invariant_of-result : goal.invariant_of-result
invariant_of-result c =
    let same = sym c.copy-identity.ensures in
    record {
      model = subst (λ (i : Identity). ∥ IsDriveName i.model ∥₁) same c.args.self.now.model;
      serial = subst (λ (i : Identity). ∥ IsDriveName i.serial ∥₁) same c.args.self.now.serial;
      firmware = subst (λ (i : Identity). i.firmware ≡ codes "ATAHOST1") same c.args.self.now.firmware;
      some_sectors = subst (λ (i : Identity). 1 ≤ i.sectors) same c.args.self.now.some_sectors;
      most_sectors = subst (λ (i : Identity). i.sectors ≤ most_drive_sectors) same c.args.self.now.most_sectors;
      depth = subst (λ (i : Identity). i.depth ≤ 32) same c.args.self.now.depth;
      first_generation = subst (λ (i : Identity). 1 ≤ i.gen_no) same c.args.self.now.first_generation;
      last_generation = subst (λ (i : Identity). i.gen_no ≤ 3) same c.args.self.now.last_generation;
      udma = subst (λ (i : Identity). i.udma ≡ 127) same c.args.self.now.udma;
      wait = c.args.self.now.wait;
    }
