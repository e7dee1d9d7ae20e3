use Rattle.std.proofs.Common.{◌++◌, ap, ◌∙◌}
use Rattle.ata_ident.specs.Build.{numbers_part, with_integrity, identity_page}
use Rattle.ata_ident.specs.Read.{reading_of}
use Rattle.ata_ident.proofs.ReadBack.{reading_of-identity_page}
use Rattle.ata_ident.proofs.page.build.Goals as goal

page_is : goal.returns-clause-page
unfolding identity_page
page_is c = c.finish.ensures ∙ ap with_integrity (c.write_numbers.ensures.value ∙ ap (λ texts. texts ++ numbers_part c.args.i.now) c.write_texts.ensures.value)

pub returns-clause-page : goal.returns-clause-page
returns-clause-page c = page_is c

pub returns-clause-read_back : goal.returns-clause-read_back
returns-clause-read_back c = ap reading_of (page_is c) ∙ reading_of-identity_page c.args.i.now c.requires c.write_texts.ensures.short
